-- Records of a work space: a sign byte, then the bytes of a size. Assumes nothing.
use mathlib.Core.Path.{◌≡◌, refl}
use mathlib.Core.List.{List, [], ◌∷◌}
use Prim.Native.Nat.{ℕ, suc, ◌+◌, ◌<◌, ◌≤◌}
use native.Mathlib.Numerals.{add-one, one-add}
use native.Mathlib.Omega.{arith}
use lib.Dec.{eqb}
use lib.IntN.{ℤ, pos, negsuc, nat_abs}
use lib.ListN.{length, get_or, set, take, drop, length-take}
use lib.Seq.{drop-cons, set_split}
use Rattle.rules.specs.Limits.{value_bytes, value_bound, record_bytes}
use Rattle.integers.specs.Positional.{bytes_value, low_bytes}
use Rattle.integers.specs.Signed.{sign_of, signed}
use Rattle.integers.proofs.Positional.{Below, below_take, below_drop, positional_lt}
use Rattle.integers.proofs.Words.{part}
use Rattle.integers.proofs.Blocks.{placed, place_more}
use Rattle.integers.proofs.LowBytes.{low_whole}
use Rattle.chains.specs.Records.{record_of}
use Rattle.records.specs.Recording.{HasRecord}
use Rattle.records.proofs.Limits.{bound_bytes}

first_rest : (l : List ℕ) (at n s : ℕ) (t : List ℕ) → at < length l → take (1 + n) (drop at l) ≡ s ∷ t → (get_or l at 0 ≡ s) × (part (at + 1) n l ≡ t)
first_rest l at n s t h e =
    let f : get_or l at 0 ∷ take n (drop (suc at) l) ≡ s ∷ t = rw (one-add, drop-cons l at 0 h) at e in
    (cc, rw add-one (cc))

-- the bytes of a size are bytes, and below the bound
pub size_bytes_lem : (l : List ℕ) (at : ℕ) → Below 256 l → Below 256 (part at value_bytes l)
size_bytes_lem l at b = below_take 256 value_bytes (drop at l) (omega arith) (below_drop 256 at l (omega arith) b)

pub size_below : (l : List ℕ) (at : ℕ) → Below 256 l → bytes_value (part at value_bytes l) < value_bound
size_below l at b = rw bound_bytes (positional_lt 256 value_bytes (part at value_bytes l) (omega (arith, length-take value_bytes (drop at l))) (size_bytes_lem l at b))

signed_of : (z : ℤ) → signed (eqb (sign_of z) 1) (nat_abs z) ≡ z
signed_of (pos n) = refl
signed_of (negsuc n) = refl

module _ (l : List ℕ) (at : ℕ) (fits : at + record_bytes ≤ length l) where
  -- a record is read back
  pub record_read : (z : ℤ) → HasRecord l at z → (get_or l at 0 ≡ sign_of z) × (bytes_value (part (at + 1) value_bytes l) ≡ nat_abs z)
  unfolding record_of
  record_read z h =
      let r = first_rest l at value_bytes (sign_of z) (low_bytes value_bytes (nat_abs z)) (omega arith) h.0 in
      (r.0, rw r.1 (low_whole value_bytes (nat_abs z) (rw bound_bytes at h.1.small)))

  pub value_read : (z : ℤ) → HasRecord l at z → signed (eqb (get_or l at 0) 1) (bytes_value (part (at + 1) value_bytes l)) ≡ z
  value_read z h = let r = record_read z h in rw (r.0, r.1) (signed_of z)

  -- a record is written
  pub record_placed : (s : ℕ) (t : List ℕ) → placed (set l at s) (at + 1) value_bytes t ≡ placed l at record_bytes (s ∷ t)
  record_placed s t =
      let e : set l at s ≡ placed l at 1 (s ∷ []) = rw add-one (set_split l at s (omega arith)) in
      rw e (place_more l at 1 (s ∷ []) refl value_bytes t (omega arith))
