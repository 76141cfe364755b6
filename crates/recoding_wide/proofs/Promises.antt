-- What the rules promise of recode wide, as theorems about the definitions that its statement cites. Assumes nothing.
use Rattle.std.specs.Prelude.{Result, Ok, Err}
use mathlib.Core.Path.{◌≡◌, refl, ap, ◌∙◌}
use mathlib.Core.Logic.{◌↔◌}
use mathlib.Core.List.{List, [], ◌∷◌, ◌++◌}
use Prim.Native.Nat.{ℕ, ◌+◌, ◌*◌, ◌<◌, ◌≤◌}
use lib.IntN.{ℤ, pos}
use lib.ListN.{length, drop}
use Rattle.rules.specs.Limits.{number_bytes, least_width}
use Rattle.rules.specs.declared.Refusal.{Refusal}
use Rattle.rules.specs.declared.Refusal.TheVariants.{MethodOrWidth}
use Rattle.rules.specs.Outcome.{Outcome, refused, answered, refusal, written_outcome, length_value, and_then}
use Rattle.rules.proofs.Memory as memory
use Rattle.rules.proofs.Memory.{Writes, stopped, no_room, all_fits, writes_only, writes_one}
use Rattle.integers.specs.Positional.{positional, bytes_value}
use Rattle.integers.proofs.Positional.{Below}
use Rattle.numbers.specs.Admission.{Padded, number_verdict, Admitted}
use Rattle.numbers.proofs.Tests.{NumberTest, too_long, padded, admitted, number_only, number_test, admitted_is}
use Rattle.signed_digits.specs.Strings.{value}
use Rattle.signed_digits.specs.Form.{NonAdjacent}
use Rattle.signed_digits.specs.Naf.{naf, digits_of, canonical_width}
use Rattle.signed_digits.specs.Bytes.{digit_bytes, string_of}
use Rattle.signed_digits.proofs.Exists.{naf_form, naf_value}
use Rattle.signed_digits.proofs.Unique.{naf_only}
use Rattle.digit_strings.proofs.Bytes.{naf_back}
use Rattle.widths.specs.Width.{AllowedWidth, width_verdict}
use Rattle.widths.proofs.Tests.{WidthTest, not_allowed, allowed, width_test, allowed_is, not_allowed_is}
use Rattle.recoding.specs.Recode.{recoding_of, recode_answer, recode_buffer}
use Rattle.recoding.proofs.Promises.{recoding_length_of}
use Rattle.recoding_wide.specs.RecodeWide.{recode_wide_verdict, recode_wide_answer, recode_wide_buffer}

-- ---- each refusal is given exactly when the rules say, and no other

-- what passes the tests
pub record Taken (w : ℕ) (number : List ℕ) : Type 0 where
  pub short : Admitted number
  pub width : AllowedWidth w

module _ (w : ℕ) (number : List ℕ) where
  -- each verdict, with what it is given for
  data RecodeTest : Result Unit Refusal → Type 0 where
    no_number : {r : Refusal} → NumberTest number (Err r) → RecodeTest (Err r)
    no_width : Admitted number → (AllowedWidth w → ⊥) → RecodeTest (Err MethodOrWidth)
    taken : Taken w number → RecodeTest (Ok tt)

  recode_only : {v : Result Unit Refusal} → RecodeTest v → recode_wide_verdict w number ≡ v
  recode_only (no_number t) = rw (number_only number t)
  recode_only (no_width a n) = rw ((admitted_is number).1 a) ((not_allowed_is w).1 n)
  recode_only (taken t) = rw ((admitted_is number).1 t.short) ((allowed_is w).1 t.width)

  recode_test : RecodeTest (recode_wide_verdict w number)
  recode_test = go (number_test number)
    where
      be : {v : Result Unit Refusal} → RecodeTest v → RecodeTest (recode_wide_verdict w number)
      be t = rw (recode_only t) t

      by_width : Admitted number → {v : Result Unit Refusal} → WidthTest w v → RecodeTest (recode_wide_verdict w number)
      by_width a (not_allowed n) = be (no_width a n)
      by_width a (allowed b) = be (taken (record { short = a; width = b }))

      go : {v : Result Unit Refusal} → NumberTest number v → RecodeTest (recode_wide_verdict w number)
      go (too_long h) = be (no_number (too_long h))
      go (padded h p) = be (no_number (padded h p))
      go (admitted a) = by_width a (width_test w)

  taken_is : recode_wide_verdict w number ≡ Ok tt ↔ Taken w number
  taken_is = (λ e. elim (rw e at recode_test) [ taken t ↦ t ], λ t. recode_only (taken t))

module _ (w : ℕ) (number : List ℕ) (room : ℕ) where
  -- the outcome, in the rules' numbers
  abbrev pub outcome : Outcome
  outcome = written_outcome (recode_wide_answer w number room)

  -- each outcome, with what led there
  pub data Given : Outcome → Type 0 where
    one : number_bytes < length number → Given (refused 1 0)
    thirteen : length number ≤ number_bytes → Padded number → Given (refused 13 0)
    three : Admitted number → (AllowedWidth w → ⊥) → Given (refused 3 0)
    six : {p : ℕ} → Taken w number → room < length (recoding_of w number) → p ≡ length (recoding_of w number) → Given (refused 6 p)
    fits : {vs : List ℕ} → Taken w number → length (recoding_of w number) ≤ room → vs ≡ length (recoding_of w number) ∷ [] → Given (answered vs)

  only : {o : Outcome} → Writes length_value (recode_wide_verdict w number) (recoding_of w number) room o → outcome ≡ o
  only = writes_only length_value (recode_wide_verdict w number) (recoding_of w number) room

  given_only : {o : Outcome} → Given o → outcome ≡ o
  given_only (one h) = only (stopped (recode_only w number (no_number (too_long h))))
  given_only (thirteen h p) = only (stopped (recode_only w number (no_number (padded h p))))
  given_only (three a n) = only (stopped (recode_only w number (no_width a n)))
  given_only (six t h e) = rw e (only (no_room (recode_only w number (taken t)) h))
  given_only (fits t h e) = rw e (only (all_fits (recode_only w number (taken t)) h))

  stops : {r : Refusal} → RecodeTest w number (Err r) → Given (refusal r)
  stops (no_number (too_long h)) = one h
  stops (no_number (padded h p)) = thirteen h p
  stops (no_width a n) = three a n

  -- every outcome is one of these
  pub no_other : Given outcome
  no_other = go (writes_one length_value (recode_wide_verdict w number) (recoding_of w number) room)
    where
      go : {o : Outcome} → Writes length_value (recode_wide_verdict w number) (recoding_of w number) room o → Given o
      go (stopped t) = stops (rw t at (recode_test w number))
      go (no_room t h) = six ((taken_is w number).0 t) h refl
      go (all_fits t h) = fits ((taken_is w number).0 t) h refl

  given : {o : Outcome} → outcome ≡ o → Given o
  given e = rw e at no_other

  -- 1, place 0: the number is longer than the limit
  pub refuses_1 : outcome ≡ refused 1 0 ↔ number_bytes < length number
  refuses_1 = (λ e. elim (given e) [ one h ↦ h ], λ h. given_only (one h))

  -- 13, place 0: its highest byte is zero
  pub refuses_13 : outcome ≡ refused 13 0 ↔ (length number ≤ number_bytes) × Padded number
  refuses_13 = (λ e. elim (given e) [ thirteen h p ↦ (h, p) ], λ h. given_only (thirteen h.0 h.1))

  -- 3, place 0: the width is none
  pub refuses_3 : outcome ≡ refused 3 0 ↔ Admitted number × (AllowedWidth w → ⊥)
  refuses_3 = (λ e. elim (given e) [ three a n ↦ (a, n) ], λ h. given_only (three h.0 h.1))

  -- 6, place the bytes needed: the digits are more than the bytes lent
  pub refuses_6 : (p : ℕ) → outcome ≡ refused 6 p ↔ Taken w number × (room < length (recoding_of w number)) × (p ≡ length (recoding_of w number))
  refuses_6 p = (λ e. elim (given e) [ six t h q ↦ (t, h, q) ], λ h. given_only (six h.0 h.1 h.2))

  -- otherwise the length is answered
  pub answers : (vs : List ℕ) → outcome ≡ answered vs ↔ Taken w number × (length (recoding_of w number) ≤ room) × (vs ≡ length (recoding_of w number) ∷ [])
  answers vs = (λ e. elim (given e) [ fits t h q ↦ (t, h, q) ], λ h. given_only (fits h.0 h.1 h.2))

-- ---- what is written

module _ (w : ℕ) (least : least_width ≤ w) (number : List ℕ) where
  -- the non-adjacent form of the number: the form, the value, and no other string has both
  pub recoding_form : (ds : List ℤ) × (recoding_of w number ≡ digit_bytes ds) × NonAdjacent w ds × (value ds ≡ pos (bytes_value number))
  unfolding recoding_of
  recoding_form =
      let e : ℕ = bytes_value number in
      (naf w (pos e), refl, naf_form w (pos e) least, naf_value w (pos e) least)

  pub recoding_only : (ds : List ℤ) → NonAdjacent w ds → value ds ≡ pos (bytes_value number) → digit_bytes ds ≡ recoding_of w number
  unfolding recoding_of
  recoding_only ds form v = ap digit_bytes (naf_only w ds least form ∙ ap (naf w) v)

  -- n bytes have at most 8 n + 1 digits
  pub recoding_length : Below 256 number → length (recoding_of w number) ≤ 8 * length number + 1
  recoding_length b = recoding_length_of w number least b

-- the bytes written, each read in two's complement, are the form
pub written_form : (w : ℕ) (number : List ℕ) → AllowedWidth w → string_of (recoding_of w number) ≡ naf w (pos (bytes_value number))
unfolding recoding_of
written_form w number a = naf_back w a.most (pos (bytes_value number)) a.least

-- no bytes mean zero, which is the empty string
pub recoding_empty : (w : ℕ) → recoding_of w [] ≡ []
unfolding recoding_of positional naf digits_of
recoding_empty w = refl

-- ---- width 2: every answer and every byte of recode

module _ (number : List ℕ) where
  same_tests : recode_wide_verdict canonical_width number ≡ number_verdict number
  unfolding width_verdict
  same_tests = go (number_verdict number)
    where
      go : (v : Result Unit Refusal) → and_then v (width_verdict canonical_width) ≡ v
      go (Ok tt) = refl
      go (Err r) = refl

  pub wide_at_2 : (out : List ℕ)
      → (recode_wide_answer canonical_width number (length out) ≡ recode_answer number (length out)) × (recode_wide_buffer canonical_width number out ≡ recode_buffer number out)
  wide_at_2 out = (rw same_tests, rw same_tests)

-- ---- memory

module _ (w : ℕ) (number out : List ℕ) where
  -- a refusal changes nothing
  pub refused_leaves : (n p : ℕ) → outcome w number (length out) ≡ refused n p → recode_wide_buffer w number out ≡ out
  refused_leaves = memory.refused_leaves length_value (recode_wide_verdict w number) (recoding_of w number) out

  -- on success the string stands at the start of the buffer, and the bytes above stay
  pub answered_leaves : (vs : List ℕ) → outcome w number (length out) ≡ answered vs → recode_wide_buffer w number out ≡ recoding_of w number ++ drop (length (recoding_of w number)) out
  answered_leaves = memory.answered_leaves length_value (recode_wide_verdict w number) (recoding_of w number) out
