-- How many steps method 6 takes: as many as method 4, or one fewer where the canonical string leads with 1 0 -1. No signed digit string for the number whose
-- top digit is 1 takes fewer; its bits are one of them, so method 1 takes no fewer. Assumes nothing.
use mathlib.Core.Path.{◌≡◌, refl, sym, ap, ◌∙◌}
use mathlib.Core.Bool.{false}
use mathlib.Core.List.{List, [], ◌∷◌, map}
use Prim.Native.Nat.{ℕ, zero, suc, ◌+◌, ◌*◌, ◌-◌, ◌/◌, ◌^◌, ◌<◌, ◌≤◌}
use native.Mathlib.Nat.{pow-suc, div-eq_of_lt}
use native.Mathlib.Omega.{arith}
use lib.IntN.{ℤ, pos}
use lib.ListN.{length, get_or, length-map, get_or-map}
use Rattle.signed_digits.specs.Strings.{value, digit_at}
use Rattle.signed_digits.specs.Form.{SignedBits}
use Rattle.signed_digits.specs.Naf.{canonical}
use Rattle.signed_digits.specs.Modified.{top_digit, leads, modified, saved}
use Rattle.signed_digits.proofs.Canonical.{canonical_form}
use Rattle.signed_digits.proofs.Leading.{canonical_top}
use Rattle.signed_digits.proofs.Tops.{top_positive}
use Rattle.signed_digits.proofs.Modified.{modified_kept, modified_bits, modified_top, modified_weight, modified_size}
use Rattle.signed_digits.proofs.Optimal.{least_sum}
use Rattle.integers.specs.Bits.{bit, bit_length}
use Rattle.integers.specs.Positional.{positional}
use Rattle.integers.specs.Tabulate.{tabulate}
use Rattle.integers.proofs.Bits.{bit_length_iff, top_bit, place_down, bit_small, some_bits}
use Rattle.integers.proofs.Tabulate.{length_tabulate, get_d_tabulate, below_tabulate, positional_tabulate}
use Rattle.methods.specs.PartialPlan.{PartialPlan, none, down_from}
use Rattle.methods.specs.DigitSteps.{at_digit, digit_steps}
use Rattle.methods.specs.Binary.{at_bit, binary_steps}
use Rattle.methods.specs.NonAdjacentForm.{naf_steps}
use Rattle.methods.specs.ModifiedNaf.{modified_naf_steps}
use Rattle.methods.proofs.SignedBits.{digits_down, bits_length}

-- ---- method 4 and any other string

pub modified_steps : (e : ℕ) → 0 < e → length (modified_naf_steps e) + saved e ≡ length (naf_steps e)
unfolding modified_naf_steps naf_steps
modified_steps e some =
    omega (arith, bits_length (modified e) (modified_bits e) (modified_top e some), bits_length (canonical (pos e)) (canonical_form (pos e)).digits (canonical_top e some), modified_weight e, modified_size e)

-- where it does not lead so, the two plans are the same
pub modified_same : (e : ℕ) → leads (canonical (pos e)) ≡ false → modified_naf_steps e ≡ naf_steps e
unfolding modified_naf_steps naf_steps
modified_same e f = ap (digit_steps 0) (modified_kept e f)

-- that the number is above zero need not be said: it has a string with 1 on top
pub least_steps : (e : ℕ) (ds : List ℤ) → SignedBits ds → value ds ≡ pos e → top_digit ds ≡ pos 1 → length (modified_naf_steps e) ≤ length (digit_steps 0 ds)
unfolding modified_naf_steps
least_steps e ds bits v top =
    let some : 0 < e = rw v at (top_positive ds bits top) in
    omega (arith, bits_length (modified e) (modified_bits e) (modified_top e some), bits_length ds bits top, least_sum e ds bits v top)

-- ---- method 1: the bits as a string

unfoldable pub binary_digits : ℕ → List ℤ
binary_digits e = map pos (tabulate (bit e) (bit_length e))

pub binary_digits_length : (e : ℕ) → length (binary_digits e) ≡ bit_length e
unfolding binary_digits
binary_digits_length e = length-map (tabulate (bit e) (bit_length e)) pos ∙ length_tabulate (bit e) (bit_length e)

binary_digit : (e i : ℕ) → digit_at (binary_digits e) i ≡ pos (get_or (tabulate (bit e) (bit_length e)) i 0)
unfolding binary_digits
binary_digit e i = get_or-map pos (tabulate (bit e) (bit_length e)) i 0

pub binary_digits_bits : (e : ℕ) → SignedBits (binary_digits e)
binary_digits_bits e i = rw (binary_digit e i) (omega (arith, below_tabulate 2 (bit e) (bit_length e) (bit_small e) i))

pub binary_digits_top : (e : ℕ) → 0 < e → top_digit (binary_digits e) ≡ pos 1
unfolding bit
binary_digits_top e some =
    rw (binary_digits_length e, binary_digit e (bit_length e - 1), get_d_tabulate (bit e) (bit_length e) (bit_length e - 1) (omega (arith, some_bits e some)), top_bit e some)

-- the n low bits, and what is left above them
bits_and_rest : (e n : ℕ) → positional 2 (tabulate (bit e) n) + 2 ^ n * (e / 2 ^ n) ≡ e
unfolding positional tabulate
bits_and_rest e zero = omega arith
bits_and_rest e (suc n) =
    omega (arith, bits_and_rest e n, positional_tabulate 2 (bit e) n, ap (λ (x : ℕ). 2 ^ n * x) (place_down e n), ap (λ (x : ℕ). x * (e / 2 ^ suc n)) (pow-suc 2 n))

value_of_naturals : (l : List ℕ) → value (map pos l) ≡ pos (positional 2 l)
unfolding value positional
value_of_naturals [] = refl
value_of_naturals (d ∷ l) = rw (value_of_naturals l)

pub binary_digits_value : (e : ℕ) → value (binary_digits e) ≡ pos e
unfolding binary_digits
binary_digits_value e =
    let n : ℕ = bit_length e in
    let none : e / 2 ^ n ≡ 0 = div-eq_of_lt ((bit_length_iff e n).0 (omega arith)) in
    value_of_naturals (tabulate (bit e) n) ∙ ap pos (omega (arith, bits_and_rest e n, ap (λ (x : ℕ). 2 ^ n * x) none))

-- a bit takes the steps of the digit
at_bit_digit : (x : ℕ) (b : PartialPlan) → x < 2 → at_bit x b ≡ at_digit (pos x) b
at_bit_digit zero b h = refl
at_bit_digit (suc zero) b h = refl
at_bit_digit (suc (suc x)) b h = absurd (omega arith)

down_same : (f g : ℕ → PartialPlan → PartialPlan) (n : ℕ) (b : PartialPlan) → ((i : ℕ) (b : PartialPlan) → i < n → f i b ≡ g i b) → down_from f n b ≡ down_from g n b
unfolding down_from
down_same f g zero b same = refl
down_same f g (suc n) b same = rw (same n b (omega arith)) (down_same f g n (g n b) (λ i b l. same i b (omega arith)))

pub binary_by_digits : (e : ℕ) → 0 < e → binary_steps e ≡ digit_steps 0 (binary_digits e)
unfolding binary_steps
binary_by_digits e some =
    let ds : List ℤ = binary_digits e in
    let same : (i : ℕ) (b : PartialPlan) → i < bit_length e - 1 → at_bit (bit e i) b ≡ at_digit (digit_at ds i) b =
    λ i b h. rw (binary_digit e i, get_d_tabulate (bit e) (bit_length e) i (omega arith)) (at_bit_digit (bit e i) b (bit_small e i)) in
    ap (λ (b : PartialPlan). b.steps) (down_same (λ i b. at_bit (bit e i) b) (λ i b. at_digit (digit_at ds i) b) (bit_length e - 1) none same)
    ∙ sym (digits_down ds (binary_digits_top e some) ∙ ap (λ (n : ℕ). (down_from (λ i b. at_digit (digit_at ds i) b) (n - 1) none).steps) (binary_digits_length e))

pub modified_at_most_binary : (e : ℕ) → 0 < e → length (modified_naf_steps e) ≤ length (binary_steps e)
modified_at_most_binary e some =
    rw (binary_by_digits e some) (least_steps e (binary_digits e) (binary_digits_bits e) (binary_digits_value e) (binary_digits_top e some))
