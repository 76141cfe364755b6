-- Three times a number, by words. Assumes nothing.
use Rattle.std.proofs.Common.{◌≡◌, ℕ, suc, ◌+◌, ◌*◌, ◌^◌, ◌<◌, ◌≤◌, List, length, get_or, take, set, sym, refl, pow-suc, mul_left_comm, add-one, arith, length-set, take_all, get_or-set_same}
use native.Mathlib.Decide.{ℕ_discrete}
use lib.Seq.{take-set-le, get_or-set_other}
use Rattle.integers.specs.Positional.{positional, words_value}
use Rattle.integers.proofs.Positional.{positional_take}
use Rattle.words.proofs.Carry.{one_more}

-- a word carries no more than is carried to it
pub carry_small : (w c t next : ℕ) → w < 2 ^ 64 → c ≤ 2 → t + 2 ^ 64 * next ≡ 3 * w + c → next ≤ 2
carry_small w c t next hw hc e = omega arith

-- the k low words of triple are those of 3 e, less what is carried into the next
abbrev pub TripledBelow : ℕ → List ℕ → List ℕ → ℕ → Type 0
TripledBelow k words triple carry = 3 * words_value (take k words) ≡ words_value (take k triple) + (2 ^ 64) ^ k * carry

pub tripled_none : (words triple : List ℕ) → TripledBelow 0 words triple 0
unfolding positional
tripled_none words triple = refl

-- the next word x is stored
pub tripled_more : (k : ℕ) (words triple : List ℕ) (x c d : ℕ) → k < length triple → TripledBelow k words triple c → x + 2 ^ 64 * d ≡ 3 * get_or words k 0 + c
    → TripledBelow (k + 1) words (set triple k x) d
tripled_more k words triple x c d h t e =
    let P : ℕ = (2 ^ 64) ^ k in
    let v : ℕ = words_value (take k words) in
    let w : ℕ = get_or words k 0 in
    let more = one_more P v (2 * v) (words_value (take k triple)) w (2 * w) x c d (omega arith) (omega arith) in
    rw (add-one, positional_take (2 ^ 64) k words, positional_take (2 ^ 64) k (set triple k x), take-set-le k triple k x (omega arith), get_or-set_same triple k x 0 h, pow-suc (2 ^ 64) k)
    (omega (arith, more, mul_left_comm P 2 w))

-- the last carry is the word above them
pub tripled_all : (k : ℕ) (words triple : List ℕ) (c : ℕ) → length words ≡ k → length triple ≡ k + 1 → TripledBelow k words triple c
    → words_value (set triple k c) ≡ 3 * words_value words
tripled_all k words triple c hw ht t =
    let all : take (suc k) (set triple k c) ≡ set triple k c = take_all (suc k) (set triple k c) (omega (arith, length-set triple k c)) in
    let low : words_value (take (suc k) (set triple k c)) ≡ 3 * words_value (take k words) =
    rw (positional_take (2 ^ 64) k (set triple k c), take-set-le k triple k c (omega arith), get_or-set_same triple k c 0 (omega arith)) (sym t) in
    rw (all, take_all k words (omega arith)) at low

-- and a word is a word
pub set_fits : (words : List ℕ) (n x i : ℕ) → n < length words → x < 2 ^ 64 → get_or words i 0 < 2 ^ 64 → get_or (set words n x) i 0 < 2 ^ 64
set_fits words n x i h small b =
    elim (ℕ_discrete i n) [
      | yes e ↦ rw (e, get_or-set_same words n x 0 h) small
      | no d ↦ rw (get_or-set_other words n i x 0 d) b
    ]
