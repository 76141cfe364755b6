-- A take of a kept recoder, by the move of the recoder that its words hold. Assumes nothing.
use mathlib.Core.Path.{◌≡◌, refl, sym, ap, ◌∙◌}
use mathlib.Core.Logic.{◌≢◌}
use mathlib.Core.Bool.{Bool, true, false, not, ◌||◌, or-true, true≢false, false≢true}
use mathlib.Core.List.{List}
use Prim.Native.Nat.{ℕ, zero, suc, ◌+◌, ◌/◌, ◌%◌, ◌^◌, ◌<◌}
use borrow.Author.Tests.{eqb-true, eqb-false, ne_eqb, le-leb, not-true}
use native.Mathlib.Nat.{add-zero}
use native.Mathlib.Omega.{arith}
use lib.Dec.{eqb, leb}
use lib.ListN.{length, take, drop, get_or, set}
use lib.Seq.{get_or-take, get_or-drop, take-set-le, get_or-set_same}
use mir.Val.{bool_byte}
use Rattle.rules.specs.Limits.{number_words}
use Rattle.integers.specs.Positional.{words_value}
use Rattle.integers.proofs.Positional.{positional_nonzero}
use Rattle.signed_digits.specs.Naf.{low_digit}
use Rattle.signed_digits.specs.Bytes.{digit_byte}
use Rattle.taking.specs.declared.Recoder.{Recoder}
use Rattle.taking.specs.Take.{stands_for, take_answer, take_leaves}
use Rattle.taking.proofs.Moves.{digit_answered, digit_taken_off}
use Rattle.c_recoder.specs.Kept.{kept_number, taken_number, done_number, IsKeptTake}

-- ---- a number v and a carry c, where a word that is part of v is not 0 if w

some : (v : ℕ) (w c : Bool) → (w ≡ true → v ≢ 0) → (w || c) ≡ true → false ≡ eqb (v + bool_byte c) 0
some v w true h t = sym (ne_eqb (v + 1) 0 (λ z. omega arith))
some v true false h t = sym (ne_eqb (v + 0) 0 (λ z. h refl (omega arith)))
some v false false h t = absurd (false≢true t)

none : (v : ℕ) (w c : Bool) → (w || c) ≡ false → eqb v 0 ≡ eqb (v + bool_byte c) 0
none v w true t = absurd (true≢false (sym (or-true w) ∙ t))
none v w false t = rw add-zero

going : (v : ℕ) → eqb v 0 ≡ false → 0 < v
going v t = let h = eqb-false v 0 t in omega arith

-- two ones or three carry one
carried : (m : ℕ) → not (eqb (m / 2) 0) ≡ leb 2 m
carried zero = refl
carried (suc zero) = refl
carried (suc (suc m)) = rw (ne_eqb (suc (suc m) / 2) 0 (λ z. omega arith), le-leb 2 (suc (suc m)) (omega arith))

-- ---- the same of the words of a kept recoder

module _ (kept : List ℕ) where
  abbrev words : List ℕ
  words = take number_words kept

  abbrev low : ℕ
  low = get_or kept 0 0

  abbrev pub carry : Bool
  carry = not (eqb (get_or kept number_words 0) 0)

  low_is : get_or words 0 0 ≡ low
  low_is = get_or-take number_words kept 0 0 (omega arith)

  pub some_left : (not (eqb low 0) || carry) ≡ true → false ≡ eqb (kept_number kept) 0
  unfolding kept_number
  some_left =
      some (words_value words) (not (eqb low 0)) carry
      (λ e. positional_nonzero (2 ^ 64) words 0 (omega arith) (rw low_is (eqb-false low 0 (not-true (eqb low 0) e))))

  pub none_left : (not (eqb low 0) || carry) ≡ false → eqb (words_value words) 0 ≡ eqb (kept_number kept) 0
  unfolding kept_number
  none_left = none (words_value words) (not (eqb low 0)) carry

  -- ---- a take with no digit left

  pub taken_done : eqb (kept_number kept) 0 ≡ true → IsKeptTake kept kept done_number
  taken_done t =
      let z : kept_number kept ≡ 0 = eqb-true (kept_number kept) 0 t in
      record { answer = rw z; next = rw z; done = λ _. refl }

  -- ---- a take of a digit: its parts

  pub kept_answered : (digit : ℕ) → eqb (kept_number kept) 0 ≡ false → digit ≡ digit_byte (low_digit 2 (low % 4 + bool_byte carry)) → digit ≡ taken_number (take_answer (kept_number kept))
  unfolding kept_number stands_for
  kept_answered digit left byte =
      let r : Recoder = record { words = words; carry = carry } in
      ap taken_number (digit_answered r digit (going (kept_number kept) left) (rw low_is byte))

  pub kept_left : (next : List ℕ) → let ones = low % 2 + low / 2 % 2 + bool_byte carry in let stored = set kept number_words (ones / 2) in
      eqb (kept_number kept) 0 ≡ false → number_words < length kept → drop number_words next ≡ drop number_words stored
      → words_value (take number_words next) ≡ words_value (take number_words stored) / 2 → kept_number next ≡ take_leaves (kept_number kept)
  unfolding kept_number stands_for
  kept_left next left long rest halves =
      let r : Recoder = record { words = words; carry = carry } in
      let ones : ℕ = low % 2 + low / 2 % 2 + bool_byte carry in
      let stored : List ℕ = set kept number_words (ones / 2) in
      let last : get_or next number_words 0 ≡ get_or stored number_words 0 = sym (get_or-drop number_words next 0 0) ∙ ap (λ (l : List ℕ). get_or l 0 0) rest ∙ get_or-drop number_words stored 0 0 in
      let half = rw (take-set-le number_words kept number_words (ones / 2) (omega arith)) at halves in
      let some = going (kept_number kept) left in
      rw (last, get_or-set_same kept number_words (ones / 2) 0 long, carried ones) (rw low_is at (digit_taken_off r (take number_words next) _ some half refl))
