-- A block of bytes that is written in parts, each above the one before. Assumes nothing.
use mathlib.Core.Path.{◌≡◌, sym, ap, ◌∙◌}
use mathlib.Core.List.{List, [], ◌∷◌, ◌++◌, append_assoc}
use Prim.Native.Nat.{ℕ, suc, ◌+◌, ◌<◌, ◌≤◌}
use native.Mathlib.Nat.{add_assoc}
use native.Mathlib.Omega.{arith}
use lib.ListN.{length, get_or, set, take, drop, length-append}
use lib.Seq.{set_at, take_at, drop_at, drop-cons, drop-drop, length-take-le}

-- x stands at `at`, and the rest of l is as it was
abbrev pub placed : List ℕ → ℕ → ℕ → List ℕ → List ℕ
placed l at m x = take at l ++ (x ++ drop (at + m) l)

module _ (l : List ℕ) (at m : ℕ) (x : List ℕ) (long : length x ≡ m) where
  below : at ≤ length l → length (take at l ++ x) ≡ at + m
  below h = rw (length-append, length-take-le at l h, long)

  -- another block above it
  pub place_more : (n : ℕ) (y : List ℕ) → at ≤ length l → placed (placed l at m x) (at + m) n y ≡ placed l at (m + n) (x ++ y)
  place_more n y h =
      let b = below h in
      let d : drop (at + m + n) ((take at l ++ x) ++ drop (at + m) l) ≡ drop (at + (m + n)) l =
      sym (drop-drop n (at + m) ((take at l ++ x) ++ drop (at + m) l)) ∙ ap (drop n) (drop_at (take at l ++ x) (drop (at + m) l) (at + m) b) ∙ drop-drop n (at + m) l ∙ rw add_assoc in
      rw (← append_assoc (take at l) x (drop (at + m) l), take_at (take at l ++ x) (drop (at + m) l) (at + m) b, d) (simp append_assoc)

  -- one byte above it
  pub place_one : (b : ℕ) → at + m < length l → set (placed l at m x) (at + m) b ≡ placed l at (m + 1) (x ++ (b ∷ []))
  place_one b h =
      let e : at + (m + 1) ≡ suc (at + m) = omega arith in
      rw (drop-cons l (at + m) 0 h, e, ← append_assoc, set_at (take at l ++ x) (get_or l (at + m) 0) (drop (suc (at + m)) l) b (at + m) (below (omega arith)))
      (simp append_assoc)
