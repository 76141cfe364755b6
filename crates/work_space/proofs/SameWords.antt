-- A value and a number, compared word by word. Assumes nothing.
use mathlib.Core.Path.{◌≡◌, refl, sym, ap, ◌∙◌}
use mathlib.Core.Logic.{◌≢◌}
use Rattle.std.specs.Prelude.{nat_eq}
use Rattle.std.specs.List.{starts_with}
use Rattle.std.proofs.lemmas.Slice.Eq.{starts_is}
use Rattle.std.proofs.lemmas.Bool.Decides.{Decides-eqb}
use mathlib.Core.Bool.{Bool, true, false, ◌&&◌, false≢true}
use mathlib.Core.List.{List, [], ◌∷◌, ◌++◌}
use Prim.Native.Nat.{ℕ, zero, suc, ◌+◌, ◌/◌, ◌%◌, ◌^◌, ◌<◌}
use borrow.Author.Tests.{eqb-true, eqb-false, eq-eqb, ne_eqb}
use native.Mathlib.Decide.{dec_lt}
use native.Mathlib.Omega.{arith}
use lib.Dec.{eqb}
use lib.IntN.{pos}
use lib.ListN.{length, get_or, drop, drop_of_length-le, length-append, get_or-append, get_or-eq_default}
use lib.Seq.{ext_get_or, get_or_at, drop-cons}
use Rattle.integers.specs.Positional.{words_value}
use Rattle.integers.specs.Signed.{signed, is_same}
use Rattle.integers.proofs.Positional.{Below, positional_at, positional_zeros}
use Rattle.chain_values.specs.declared.Value.{Value}
use Rattle.chain_values.specs.Value.{integer_of}

-- ---- words, of which the first list has one more

module _ (words own : List ℕ) (bw : Below (2 ^ 64) words) (bo : Below (2 ^ 64) own) (long : length words ≡ length own + 1) where
  abbrev n : ℕ
  n = length own

  same_places : words_value words ≡ words_value own → (i : ℕ) → get_or words i 0 ≡ get_or own i 0
  same_places e i = positional_at (2 ^ 64) words i bw ∙ ap (λ (v : ℕ). v / (2 ^ 64) ^ i % 2 ^ 64) e ∙ sym (positional_at (2 ^ 64) own i bo)

  top : words_value words ≡ words_value own → get_or words n 0 ≡ 0
  top e = same_places e n ∙ get_or-eq_default own 0 {n = n} (omega arith)

  same_list : words_value words ≡ words_value own → words ≡ own ++ (0 ∷ [])
  same_list e = ext_get_or 0 words (own ++ (0 ∷ [])) (rw length-append (omega arith)) (λ i h. go i (dec_lt i n) h)
    where
      go : (i : ℕ) → Dec (i < n) → i < length words → get_or words i 0 ≡ get_or (own ++ (0 ∷ [])) i 0
      go i (yes l) h = same_places e i ∙ sym (get_or-append own (0 ∷ []) 0 i (omega arith))
      go i (no l) h = let q : i ≡ n = omega arith in rw q (top e ∙ sym (get_or_at own 0 [] 0 n refl))

  same_value : words ≡ own ++ drop (length own) words → get_or words n 0 ≡ 0 → words_value words ≡ words_value own
  same_value e t =
      let rest : drop (length own) words ≡ 0 ∷ [] = rw (drop-cons words n 0 (omega arith), t, drop_of_length-le words {i = suc n} (omega arith)) in
      ap words_value (e ∙ ap (λ (l : List ℕ). own ++ l) rest) ∙ positional_zeros (2 ^ 64) 1 own

  -- they begin with the other words, and the top one is zero
  begins : starts_with nat_eq words own && eqb (get_or words n 0) 0 ≡ eqb (words_value words) (words_value own)
  begins = go (starts_with nat_eq words own) (eqb (get_or words n 0) 0) refl (starts_is Decides-eqb words own _ refl)
    where
      go : (r t : Bool) → eqb (get_or words n 0) 0 ≡ t → (r ≡ true → words ≡ own ++ drop (length own) words) × ((rest : List ℕ) → words ≡ own ++ rest → r ≡ true)
          → r && t ≡ eqb (words_value words) (words_value own)
      go false t q is = sym (ne_eqb (words_value words) (words_value own) (λ s. false≢true (is.1 (0 ∷ []) (same_list s))))
      go true false q is = sym (ne_eqb (words_value words) (words_value own) (λ s. eqb-false _ _ q (top s)))
      go true true q is = sym (eq-eqb (words_value words) (words_value own) (same_value (is.0 refl) (eqb-true _ _ q)))

-- ---- a value, of which the last word is one more than a number has

module _ (v : Value) (m : ℕ) where
  -- below zero it is no number, and a number is not zero
  pub below_zero : v.negative ≡ true → m ≢ 0 → is_same (integer_of v) (pos m) ≡ false
  unfolding integer_of
  below_zero e d = rw e (go (words_value v.words))
    where
      go : (n : ℕ) → is_same (signed true n) (pos m) ≡ false
      go zero = ne_eqb 0 m (λ z. d (sym z))
      go (suc n) = refl

  -- else its words decide
  pub same_number : (own : List ℕ) (n : ℕ) → Below (2 ^ 64) v.words → Below (2 ^ 64) own → length own ≡ n → length v.words ≡ n + 1 → words_value own ≡ m → v.negative ≡ false
      → (r : Bool) → r ≡ starts_with nat_eq v.words own → r && eqb (get_or v.words n 0) 0 ≡ is_same (integer_of v) (pos m)
  unfolding integer_of
  same_number own n bw bo short long value e r is = rw (e, ← value, is, ← short) (begins v.words own bw bo (rw short long))
