-- What is promised of read back (docs/RULES.md, "Calls", "Refusals" and "Memory"), as theorems about the definitions that its statement cites. Assumes nothing.
use Rattle.rules.specs.declared.Refusal.{Refusal}
use Rattle.std.specs.Prelude.{Result}
use mathlib.Core.Path.{◌≡◌, refl, sym, ap, ◌∙◌}
use mathlib.Core.Logic.{◌↔◌, ◌⊎◌, inl, inr}
use mathlib.Core.List.{List, [], ◌∷◌, ◌++◌}
use Prim.Native.Nat.{ℕ, zero, suc, ◌<◌, ◌≤◌}
use native.Mathlib.Omega.{arith}
use lib.IntN.{ℤ, pos, negsuc, neg_ℤ, nat_abs}
use lib.ListN.{length, take, drop}
use lib.Seq.{take-append_seam}
use Rattle.rules.specs.Limits.{string_digits}
use Rattle.rules.specs.Memory.{written, leaves}
use Rattle.rules.specs.Outcome.{Outcome, refused, answered}
use Rattle.rules.proofs.Memory as memory
use Rattle.rules.proofs.Memory.{Writes, stopped, no_room, all_fits}
use Rattle.integers.specs.Positional.{bytes_value, Unpadded, bytes_of}
use Rattle.integers.specs.Signed.{sign_of}
use Rattle.integers.proofs.Positional.{Below}
use Rattle.integers.proofs.Shortest.{bytes_zero, bytes_value_lem, bytes_below, bytes_top, bytes_only}
use Rattle.numbers.specs.Admission.{Admitted}
use Rattle.signed_digits.specs.Naf.{canonical_width}
use Rattle.digit_strings.specs.Admission.{string_verdict, string_value, DigitString, LowestBad}
use Rattle.digit_strings.proofs.Given as string
use Rattle.recoding.specs.Recode.{recoding}
use Rattle.reading.specs.ReadBack.{size_bytes, with_sign, read_back_answer, read_back_buffer, read_back_outcome}
use Rattle.reading.proofs.OfWidth as of_width
use Rattle.reading.proofs.OfWidth.{values, with_sign_lem}

-- ---- each refusal is given exactly when the rules say, and no other

module _ (digits : List ℕ) (room : ℕ) where
  -- the outcome, in the rules' numbers
  abbrev pub outcome : Outcome
  outcome = read_back_outcome (read_back_answer digits room)

  outcome_is : outcome ≡ string.outcome (values digits) canonical_width digits (size_bytes digits) room
  outcome_is = of_width.outcome_is canonical_width digits room

  -- each outcome, with what it is given for
  abbrev pub Given : Outcome → Type 0
  Given = string.Given (values digits) canonical_width digits (size_bytes digits) room

  -- every outcome is one of these
  pub no_other : Given outcome
  no_other = rw outcome_is (string.no_other (values digits) canonical_width digits (size_bytes digits) room)

  -- 5, place 0: the string is longer than the limit
  pub refuses_5 : outcome ≡ refused 5 0 ↔ string_digits < length digits
  refuses_5 = rw outcome_is (string.refuses_5 (values digits) canonical_width digits (size_bytes digits) room)

  -- 4, place the lowest byte that is no digit
  pub refuses_4 : (p : ℕ) → outcome ≡ refused 4 p ↔ (length digits ≤ string_digits) × LowestBad canonical_width digits p
  refuses_4 = rw outcome_is (string.refuses_4 (values digits) canonical_width digits (size_bytes digits) room)

  -- 6, place the bytes needed: the size has more bytes than are lent
  pub refuses_6 : (p : ℕ) → outcome ≡ refused 6 p ↔ DigitString canonical_width digits × (room < length (size_bytes digits)) × (p ≡ length (size_bytes digits))
  refuses_6 = rw outcome_is (string.refuses_6 (values digits) canonical_width digits (size_bytes digits) room)

  -- otherwise the sign and the number of bytes are answered
  pub answers : (vs : List ℕ)
      → outcome ≡ answered vs ↔ DigitString canonical_width digits × (length (size_bytes digits) ≤ room) × (vs ≡ sign_of (string_value digits) ∷ length (size_bytes digits) ∷ [])
  answers = rw outcome_is (string.answers (values digits) canonical_width digits (size_bytes digits) room)

-- ---- memory

module _ (digits out : List ℕ) where
  -- a refusal changes nothing
  pub refused_leaves : (n p : ℕ) → outcome digits (length out) ≡ refused n p → read_back_buffer digits out ≡ out
  refused_leaves = rw (outcome_is digits (length out)) (memory.refused_leaves (values digits) (string_verdict canonical_width digits) (size_bytes digits) out)

  -- on success only the answer's bytes change, and those above stay
  pub answered_leaves : (vs : List ℕ) → outcome digits (length out) ≡ answered vs → read_back_buffer digits out ≡ size_bytes digits ++ drop (length (size_bytes digits)) out
  answered_leaves = rw (outcome_is digits (length out)) (memory.answered_leaves (values digits) (string_verdict canonical_width digits) (size_bytes digits) out)

-- ---- the value read

-- a sign and a size that give a value: sign 0, or 1 below zero; zero has 0
abbrev pub Signed : ℤ → ℕ → ℕ → Type 0
Signed v sign size = ((sign ≡ 0) × (v ≡ pos size)) ⊎ ((sign ≡ 1) × (v ≡ neg_ℤ (pos size)) × (0 < size))

-- the same with the size in bytes, with no high zero byte
pub record Gives (v : ℤ) (sign : ℕ) (bytes : List ℕ) : Type 0 where
  pub signed : Signed v sign (bytes_value bytes)
  pub below : Below 256 bytes
  pub top : Unpadded bytes

-- the sign and the size that read back is defined by give the value of the digit string back
pub reads_value : (digits : List ℕ) → Gives (string_value digits) (sign_of (string_value digits)) (size_bytes digits)
unfolding size_bytes
reads_value digits = go (string_value digits)
  where
    go : (v : ℤ) → Gives v (sign_of v) (bytes_of (nat_abs v))
    go (pos n) = record { signed = inl (refl, ap pos (sym (bytes_value_lem n))); below = bytes_below n; top = bytes_top n }
    go (negsuc n) =
        let e = bytes_value_lem (suc n) in
        record { signed = inr (refl, ap (λ (m : ℕ). neg_ℤ (pos m)) (sym e), omega (arith, e)); below = bytes_below (suc n); top = bytes_top (suc n) }

answered_is : (values : ℕ → List ℕ) (tests : Result Unit Refusal) (bytes : List ℕ) (room : ℕ) (vs : List ℕ) → memory.writes values tests bytes room ≡ answered vs → vs ≡ values (length bytes)
answered_is values tests bytes room vs = go (memory.writes_one values tests bytes room)
  where
    go : {o : Outcome} → Writes values tests bytes room o → o ≡ answered vs → vs ≡ values (length bytes)
    go (stopped t) e = cc
    go (no_room t h) e = cc
    go (all_fits t h) e = cc

-- so does what it answers and writes, whatever it tests before
pub reads_back_after : (tests : Result Unit Refusal) (digits out : List ℕ) (sign n : ℕ)
    → read_back_outcome (with_sign (sign_of (string_value digits)) (written tests (size_bytes digits) (length out))) ≡ answered (sign ∷ n ∷ [])
    → Gives (string_value digits) sign (take n (leaves (written tests (size_bytes digits) (length out)) (size_bytes digits) out))
reads_back_after tests digits out sign n e =
    let bytes : List ℕ = size_bytes digits in
    let o = sym (with_sign_lem (sign_of (string_value digits)) (written tests bytes (length out))) ∙ e in
    let a : sign ∷ n ∷ [] ≡ values digits (length bytes) = answered_is (values digits) tests bytes (length out) (sign ∷ n ∷ []) o in
    let s : sign ≡ sign_of (string_value digits) = cc in
    let l : n ≡ length bytes = cc in
    rw (memory.answered_leaves (values digits) tests bytes out (sign ∷ n ∷ []) o, s, l, take-append_seam bytes (drop (length bytes) out)) (reads_value digits)

pub reads_back : (digits out : List ℕ) (sign n : ℕ) → outcome digits (length out) ≡ answered (sign ∷ n ∷ []) → Gives (string_value digits) sign (take n (read_back_buffer digits out))
reads_back digits = reads_back_after (string_verdict canonical_width digits) digits

-- and no other sign and bytes do
pub reads_only : (digits : List ℕ) (sign : ℕ) (bytes : List ℕ) → Gives (string_value digits) sign bytes → (sign ≡ sign_of (string_value digits)) × (bytes ≡ size_bytes digits)
unfolding size_bytes
reads_only digits sign bytes r = go (string_value digits) r.signed
  where
    own : bytes ≡ bytes_of (bytes_value bytes)
    own = bytes_only bytes r.below r.top

    opposite : (m : ℕ) → 0 < m → (1 ≡ sign_of (neg_ℤ (pos m))) × (nat_abs (neg_ℤ (pos m)) ≡ m)
    opposite zero h = absurd (omega arith)
    opposite (suc m) h = (refl, refl)

    go : (v : ℤ) → Signed v sign (bytes_value bytes) → (sign ≡ sign_of v) × (bytes ≡ bytes_of (nat_abs v))
    go v (inl (s, e)) = (rw (e, s), rw e own)
    go v (inr (s, e, h)) = let o = opposite (bytes_value bytes) h in (rw (e, s) o.0, rw (e, o.1) own)

-- zero has sign 0 and no bytes
pub reads_zero : (digits : List ℕ) → string_value digits ≡ pos 0 → (sign_of (string_value digits) ≡ 0) × (size_bytes digits ≡ [])
unfolding size_bytes
reads_zero digits z = (rw z, rw (z, bytes_zero))

-- ---- what recode writes

module _ (number : List ℕ) (admitted : Admitted number) (bytes : Below 256 number) where
  -- a digit string of the number's value
  pub recoding_reads : DigitString canonical_width (recoding number) × (string_value (recoding number) ≡ pos (bytes_value number))
  recoding_reads = of_width.recoding_reads canonical_width (omega arith) number bytes (omega arith) admitted

  -- read back with room enough, it gives the number's own bytes
  pub reads_recoding : (out : List ℕ) → length number ≤ length out
      → (outcome (recoding number) (length out) ≡ answered (0 ∷ length number ∷ [])) × (read_back_buffer (recoding number) out ≡ number ++ drop (length number) out)
  reads_recoding = of_width.reads_recoding canonical_width (omega arith) number bytes (omega arith) admitted
