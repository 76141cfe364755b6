-- The digits of a modified form by its shape: the canonical ones that are kept, then 1 1 where there are more. Assumes nothing.
use mathlib.Core.Path.{◌≡◌, refl, ap, ◌∙◌}
use mathlib.Core.List.{List, ◌++◌}
use Prim.Native.Nat.{ℕ, ◌+◌, ◌*◌, ◌-◌, ◌<◌, ◌≤◌}
use native.Mathlib.Decide.{ℕ_discrete}
use native.Mathlib.Omega.{arith}
use lib.IntN.{pos}
use lib.ListN.{length, drop, get_or, set, length-set}
use lib.Seq.{get_or-set_same, get_or-set_other}
use Rattle.integers.specs.Tabulate.{tabulate}
use Rattle.integers.proofs.Tabulate.{tabulate_more, tabulate_same}
use Rattle.signed_digits.specs.Naf.{canonical}
use Rattle.signed_digits.specs.Modified.{modified, saved}
use Rattle.signed_digits.specs.Bytes.{digit_byte, digit_bytes}
use Rattle.signed_digits.proofs.Modified.{modified_size, saved_at_most, modified_low, modified_ones}
use Rattle.digit_strings.specs.Places.{place_byte}
use Rattle.digit_strings.proofs.Places.{places_written}
use Rattle.modified_digits.specs.declared.Shape.{Shape}
use Rattle.modified_digits.specs.Form.{ShapeOf}

-- three digits are replaced, if any are
pub saved_fits : (e : ℕ) → 3 * saved e ≤ length (canonical (pos e))
saved_fits e =
    elim (ℕ_discrete (saved e) 1) [
      | yes one ↦ omega (arith, (modified_ones e one).0)
      | no n ↦ omega (arith, saved_at_most e)
    ]

module _ {e : ℕ} {s : Shape} (h : ShapeOf e s) where
  pub kept_fits : s.kept ≤ s.length
  kept_fits = omega (arith, h.digits, h.canonical_digits, modified_size e)

  pub kept_all : s.length ≤ s.kept → s.kept ≡ s.length
  kept_all l = omega (arith, h.digits, h.canonical_digits, modified_size e)

  pub low_kept : (i : ℕ) → i < s.kept → place_byte (canonical (pos e)) i ≡ place_byte (modified e) i
  unfolding place_byte
  low_kept i l = ap digit_byte (modified_low e i (omega (arith, h.canonical_digits)))

  module _ (more : s.kept < s.length) where
    one : saved e ≡ 1
    one = omega (arith, h.digits, h.canonical_digits, modified_size e, saved_at_most e)

    pub two_more : s.length ≡ s.kept + 2
    two_more = omega (arith, h.digits, h.canonical_digits, modified_size e, (modified_ones e one).0, one)

    at : s.kept ≡ length (canonical (pos e)) - 3
    at = omega (arith, h.canonical_digits, one)

    pub top_ones : (1 ≡ place_byte (modified e) s.kept) × (1 ≡ place_byte (modified e) (s.kept + 1))
    unfolding place_byte
    top_ones = let (some, low, high) = modified_ones e one in rw (at, low, high) (refl, refl)

  -- ---- written from the start of what was lent

  module _ (lent here : List ℕ) (fits : s.length ≤ length lent) (low : here ≡ tabulate (place_byte (canonical (pos e))) s.kept ++ drop s.kept lent) where
    so_far : here ≡ tabulate (place_byte (modified e)) s.kept ++ drop s.kept lent
    so_far = low ∙ rw (tabulate_same (place_byte (canonical (pos e))) (place_byte (modified e)) s.kept low_kept)

    pub kept_written : s.length ≤ s.kept → here ≡ digit_bytes (modified e) ++ drop s.length lent
    kept_written l = so_far ∙ rw (kept_all l) (places_written (modified e) lent h.digits)

    pub ones_written : s.kept < s.length → set (set here s.kept 1) (s.kept + 1) 1 ≡ digit_bytes (modified e) ++ drop s.length lent
    ones_written more =
        let (first, second) = top_ones more in
        let n : s.kept + 1 + 1 ≡ s.length = omega (arith, two_more more) in
        let first-written : set here s.kept 1 ≡ tabulate (place_byte (modified e)) (s.kept + 1) ++ drop (s.kept + 1) lent =
        ap (λ (l : List ℕ). set l s.kept 1) so_far ∙ ap (set (tabulate (place_byte (modified e)) s.kept ++ drop s.kept lent) s.kept) first ∙ tabulate_more (place_byte (modified e)) lent s.kept (omega arith) in
        ap (λ (l : List ℕ). set l (s.kept + 1) 1) first-written
        ∙ ap (set (tabulate (place_byte (modified e)) (s.kept + 1) ++ drop (s.kept + 1) lent) (s.kept + 1)) second
        ∙ tabulate_more (place_byte (modified e)) lent (s.kept + 1) (omega (arith, two_more more))
        ∙ rw n (places_written (modified e) lent h.digits)

  -- ---- written one place up

  module _ (here : List ℕ) (low : (i : ℕ) → i < s.kept → get_or here (i + 1) 0 ≡ place_byte (canonical (pos e)) i) where
    pub kept_raised : s.length ≤ s.kept → (i : ℕ) → i < s.length → get_or here (i + 1) 0 ≡ place_byte (modified e) i
    kept_raised l i k = let m : i < s.kept = omega arith in low i m ∙ low_kept i m

    pub ones_raised : s.kept < s.length → s.length < length here → (i : ℕ) → i < s.length → get_or (set (set here (s.kept + 1) 1) (s.kept + 2) 1) (i + 1) 0 ≡ place_byte (modified e) i
    ones_raised more fits i k = go (ℕ_discrete i (s.kept + 1)) (ℕ_discrete i s.kept)
      where
        second : s.kept + 2 ≡ s.kept + 1 + 1
        second = omega arith

        go : Dec (i ≡ s.kept + 1) → Dec (i ≡ s.kept) → get_or (set (set here (s.kept + 1) 1) (s.kept + 2) 1) (i + 1) 0 ≡ place_byte (modified e) i
        go (yes z) _ =
            rw (z, second) (get_or-set_same (set here (s.kept + 1) 1) (s.kept + 1 + 1) 1 0 (omega (arith, two_more more, length-set here (s.kept + 1) 1)) ∙ (top_ones more).1)
        go (no z) (yes w) =
            get_or-set_other (set here (s.kept + 1) 1) (s.kept + 2) (i + 1) 1 0 (λ q. omega arith)
            ∙ rw w (get_or-set_same here (s.kept + 1) 1 0 (omega (arith, two_more more)) ∙ (top_ones more).0)
        go (no z) (no w) =
            let m : i < s.kept = omega (arith, two_more more) in
            get_or-set_other (set here (s.kept + 1) 1) (s.kept + 2) (i + 1) 1 0 (λ q. omega arith)
            ∙ get_or-set_other here (s.kept + 1) (i + 1) 1 0 (λ q. omega arith)
            ∙ low i m ∙ low_kept i m
