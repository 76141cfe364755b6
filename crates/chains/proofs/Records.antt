-- Records of a work space: each has the same length, stands at its own place, and holds one value only. Assumes nothing.
use mathlib.Core.Path.{◌≡◌, refl, sym, ap, ◌∙◌}
use mathlib.Core.List.{List, [], ◌∷◌, ◌++◌, append_assoc}
use Prim.Native.Nat.{ℕ, zero, suc, ◌+◌, ◌*◌, ◌<◌}
use native.Mathlib.Nat.{mod-eq_of_lt}
use native.Mathlib.Omega.{arith}
use lib.IntN.{ℤ, pos, negsuc, nat_abs}
use lib.ListN.{length, take, drop, length-append}
use lib.Seq.{take_at, drop_at, drop-drop}
use Rattle.rules.specs.Limits.{value_bytes, value_bound, record_bytes}
use Rattle.integers.specs.Positional.{bytes_value, low_bytes}
use Rattle.integers.specs.Signed.{sign_of}
use Rattle.integers.proofs.LowBytes.{length_low, low_value}
use Rattle.chains.specs.Values.{at}
use Rattle.chains.specs.Records.{record_of, records_of}

pub length_record : (z : ℤ) → length (record_of z) ≡ record_bytes
unfolding record_of
length_record z = ap suc (length_low value_bytes (nat_abs z))

pub length_records : (values : List ℤ) → length (records_of values) ≡ record_bytes * length values
unfolding records_of
length_records [] = refl
length_records (z ∷ values) = rw length-append (omega (arith, length_record z, length_records values))

pub records_append : (xs ys : List ℤ) → records_of (xs ++ ys) ≡ records_of xs ++ records_of ys
unfolding records_of
records_append [] ys = refl
records_append (z ∷ xs) ys = rw (records_append xs ys, append_assoc)

-- record j, whatever stands behind the records
pub record_at : (values : List ℤ) (tail : List ℕ) (j : ℕ) → j < length values → take record_bytes (drop (record_bytes * j) (records_of values ++ tail)) ≡ record_of (at values j)
unfolding records_of
record_at [] tail j h = absurd (omega arith)
record_at (z ∷ values) tail zero h = rw append_assoc (take_at (record_of z) (records_of values ++ tail) record_bytes (length_record z))
record_at (z ∷ values) tail (suc j) h =
    let e : record_bytes * suc j ≡ record_bytes + record_bytes * j = omega arith in
    rw (e, append_assoc, ← drop-drop (record_bytes * j) record_bytes, drop_at (record_of z) (records_of values ++ tail) record_bytes (length_record z))
    (record_at values tail j (omega arith))

-- a sign and a size make one integer
same : (a b : ℤ) → sign_of a ≡ sign_of b → nat_abs a ≡ nat_abs b → a ≡ b
same (pos m) (pos n) s e = ap pos e
same (pos m) (negsuc n) s e = absurd (omega arith)
same (negsuc m) (pos n) s e = absurd (omega arith)
same (negsuc m) (negsuc n) s e = let d : m ≡ n = omega arith in ap negsuc d

pub record_is : (a b : ℤ) → nat_abs a < value_bound → nat_abs b < value_bound → record_of a ≡ record_of b → a ≡ b
unfolding record_of
record_is a b la lb e =
    let low : low_bytes value_bytes (nat_abs a) ≡ low_bytes value_bytes (nat_abs b) = cc in
    let whole : (n : ℕ) → n < value_bound → bytes_value (low_bytes value_bytes n) ≡ n = λ n l. low_value value_bytes n ∙ mod-eq_of_lt l in
    same a b (cc) (sym (whole (nat_abs a) la) ∙ ap bytes_value low ∙ whole (nat_abs b) lb)
