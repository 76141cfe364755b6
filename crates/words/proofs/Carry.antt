-- Sums and differences of numbers, word by word from the lowest, and what they carry or borrow. Assumes nothing.
use Rattle.std.proofs.Common.{◌≡◌, ℕ, ◌+◌, ◌*◌, ◌^◌, ◌<◌, Bool, false, List, length, get_or, take, set, refl, ap, mul_assoc, pow-suc, mul-add, add-one, arith, take_all, get_or-set_same}
use lib.Seq.{take-set-le}
use mir.Val.{bool_byte}
use Rattle.integers.specs.Positional.{positional, words_value}
use Rattle.integers.proofs.Positional.{positional_take}

-- the k low words of v and w add up to those of u and what is carried into the next; where w is taken from u and leaves v, it is borrowed
abbrev pub Carried : ℕ → List ℕ → List ℕ → List ℕ → Bool → Type 0
Carried k v w u c = words_value (take k v) + words_value (take k w) ≡ words_value (take k u) + (2 ^ 64) ^ k * bool_byte c

pub one_more : (P x y z p q r c d : ℕ) → x + y ≡ z + P * c → p + q + c ≡ r + 2 ^ 64 * d
    → x + P * p + (y + P * q) ≡ z + P * r + P * 2 ^ 64 * d
one_more P x y z p q r c d h e =
    let l : P * (p + q + c) ≡ P * p + P * q + P * c = rw (mul-add P (p + q) c, mul-add P p q) in
    let m : P * (r + 2 ^ 64 * d) ≡ P * r + P * 2 ^ 64 * d = rw (mul-add P r (2 ^ 64 * d), mul_assoc P (2 ^ 64) d) in
    omega (arith, ap (λ (n : ℕ). P * n) e)

carried_more : (k : ℕ) (v w u : List ℕ) (c d : Bool) → Carried k v w u c → get_or v k 0 + get_or w k 0 + bool_byte c ≡ get_or u k 0 + 2 ^ 64 * bool_byte d
    → Carried (k + 1) v w u d
carried_more k v w u c d h e =
    rw (add-one, positional_take (2 ^ 64) k v, positional_take (2 ^ 64) k w, positional_take (2 ^ 64) k u, pow-suc (2 ^ 64) k)
    (one_more ((2 ^ 64) ^ k) (words_value (take k v)) (words_value (take k w)) (words_value (take k u)) (get_or v k 0) (get_or w k 0) (get_or u k 0) (bool_byte c) (bool_byte d) h e)

-- the next word x is stored: of the sum of a and b, or of what is left of a without b
module _ (k : ℕ) (a b words : List ℕ) (x : ℕ) (c d : Bool) (h : k < length words) where
  pub sum_stored : Carried k a b words c → x + bool_byte d * 2 ^ 64 ≡ get_or a k 0 + get_or b k 0 + bool_byte c → Carried (k + 1) a b (set words k x) d
  sum_stored w e = carried_more k a b (set words k x) c d (rw (take-set-le k words k x (omega arith)) w) (rw (get_or-set_same words k x 0 h) (omega arith))

  pub difference_stored : Carried k words b a c → x + get_or b k 0 + bool_byte c ≡ get_or a k 0 + bool_byte d * 2 ^ 64 → Carried (k + 1) (set words k x) b a d
  difference_stored w e = carried_more k (set words k x) b a c d (rw (take-set-le k words k x (omega arith)) w) (rw (get_or-set_same words k x 0 h) (omega arith))

pub carried_none : (v w u : List ℕ) → Carried 0 v w u false
unfolding positional
carried_none v w u = refl

pub carried_all : (k : ℕ) (v w u : List ℕ) (c : Bool) → length v ≡ k → length w ≡ k → length u ≡ k → Carried k v w u c
    → words_value v + words_value w ≡ words_value u + (2 ^ 64) ^ k * bool_byte c
carried_all k v w u c hv hw hu h = rw (take_all k v (omega arith), take_all k w (omega arith), take_all k u (omega arith)) at h
