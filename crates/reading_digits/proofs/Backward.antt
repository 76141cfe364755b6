-- A list that is gone through from its end: what is left is its front. Assumes nothing.
use mathlib.Core.Path.{◌≡◌, refl, sym, ap, ◌∙◌}
use mathlib.Core.List.{List, [], ◌∷◌, ◌++◌}
use Prim.Native.Nat.{ℕ, suc, ◌<◌}
use native.Mathlib.Omega.{arith}
use lib.ListN.{length, get_or, take, length-append, length-take}
use lib.Seq.{take_at, take-suc, get_or_at, take-length, length-take-le}

-- what is left of l
abbrev pub Front : List ℕ → List ℕ → Type 0
Front l rest = rest ≡ take (length rest) l

pub front_whole : (l : List ℕ) → Front l l
front_whole l = sym (take-length l)

-- its last element is passed
pub record Passed (l rest : List ℕ) (x : ℕ) : Type 0 where
  pub left : Front l rest
  pub within : length rest < length l
  pub element : get_or l (length rest) 0 ≡ x

pub front_less : (l rest : List ℕ) (x : ℕ) → Front l (rest ++ (x ∷ [])) → Passed l rest x
front_less l rest x f =
    let n : ℕ = length rest in
    let size : length (rest ++ (x ∷ [])) ≡ suc n = omega (arith, length-append rest (x ∷ [])) in
    let whole : rest ++ (x ∷ []) ≡ take (suc n) l = rw size at f in
    let room : n < length l = omega (arith, length-take (suc n) l, ap length whole) in
    let long : length (take n l) ≡ n = length-take-le n l (omega arith) in
    let e : rest ++ (x ∷ []) ≡ take n l ++ (get_or l n 0 ∷ []) = whole ∙ take-suc l n 0 room in
    record {
      left = sym (take_at rest (x ∷ []) n refl) ∙ ap (take n) e ∙ take_at (take n l) (get_or l n 0 ∷ []) n long;
      within = room;
      element = sym (get_or_at (take n l) (get_or l n 0) [] 0 n long) ∙ sym (ap (λ (y : List ℕ). get_or y n 0) e) ∙ get_or_at rest x [] 0 n refl;
    }
