-- The bytes of a size in a work space: whole words, and a single byte for the top one. Assumes nothing.
use mathlib.Core.Path.{◌≡◌, refl, sym, ap, ◌∙◌}
use mathlib.Core.Bool.{Bool, true, false, ◌&&◌}
use mathlib.Core.List.{List, [], ◌∷◌}
use Prim.Native.Nat.{ℕ, ◌+◌, ◌*◌, ◌-◌, ◌/◌, ◌%◌, ◌^◌, ◌<◌, ◌≤◌}
use borrow.Author.Tests.{eqb-true, eqb-false, eq-eqb, ne_eqb, lt-ltb, le-ltb}
use native.Mathlib.Nat.{mul_comm}
use native.Mathlib.Numerals.{add-one}
use native.Mathlib.Omega.{arith}
use lib.Arith.{digits_div, digits_mod}
use lib.Bits.{bit_or, bit_xor, or_add_and, xor_add_and, xor_self, xor_zero_r, and_le_l, and_le_r, and_mask}
use lib.Dec.{ltb, eqb}
use lib.ListN.{length, get_or, set, take, drop, length-take, length-drop}
use lib.Seq.{length-take-le, take_all, take-nil, drop-cons}
use mir.Val.{bool_byte}
use Rattle.rules.specs.Limits.{value_bytes, value_words}
use Rattle.integers.specs.Positional.{positional, bytes_value, words_value, low_bytes}
use Rattle.integers.specs.Tabulate.{tabulate}
use Rattle.integers.proofs.Positional.{Below, below_take, positional_take, positional_lt}
use Rattle.integers.proofs.Tabulate.{length_tabulate, get_d_tabulate, below_tabulate}
use Rattle.integers.proofs.Words.{part, word_at, words_value_lem, word_lt, part_part, words_low}
use Rattle.integers.proofs.Blocks.{placed, place_more, place_one}
use Rattle.integers.proofs.LowBytes.{length_low}
use Rattle.words.proofs.Carry.{Carried, carried_none, difference_stored}
use Rattle.records.specs.Recording.{distance_of}
use Rattle.records.proofs.Records.{size_bytes_lem}

module _ (space : List ℕ) (at : ℕ) where
  -- the words of the size whose bytes stand at `at`
  unfoldable pub size_words : List ℕ
  size_words = tabulate (word_at (part at value_bytes space)) value_words

  pub length_words : length size_words ≡ value_words
  unfolding size_words
  length_words = length_tabulate (word_at (part at value_bytes space)) value_words

  pub word_at_lem : (k : ℕ) → k < value_words → get_or size_words k 0 ≡ word_at (part at value_bytes space) k
  unfolding size_words
  word_at_lem k h = get_d_tabulate (word_at (part at value_bytes space)) value_words k h

  -- the bytes of each: eight, or the single one of the top word
  pub whole_word : (k : ℕ) → k < value_words - 1 → bytes_value (part (at + 8 * k) 8 space) ≡ word_at (part at value_bytes space) k
  whole_word k h = ap bytes_value (sym (part_part space at value_bytes (8 * k) 8 (omega arith)))

  module _ (fits : at + value_bytes ≤ length space) where
    long : length (part at value_bytes space) ≡ value_bytes
    long = length-take-le value_bytes (drop at space) (rw length-drop (omega arith))

    pub top_word : (k : ℕ) → k ≡ value_words - 1 → get_or space (at + 8 * k) 0 ≡ word_at (part at value_bytes space) k
    unfolding positional
    top_word k h =
        let rest : List ℕ = drop (8 * k) (part at value_bytes space) in
        let short : length rest ≡ 1 = rw (length-drop, long) (omega arith) in
        let e : take 8 rest ≡ get_or space (at + 8 * k) 0 ∷ [] =
        take_all 8 rest (omega arith) ∙ sym (take_all 1 rest (omega arith)) ∙ part_part space at value_bytes (8 * k) 1 (omega arith) ∙ rw (drop-cons space (at + 8 * k) 0 (omega arith)) in
        rw e (omega arith)

    pub words_are : words_value size_words ≡ bytes_value (part at value_bytes space)
    unfolding size_words
    words_are = words_value_lem (part at value_bytes space) value_words ∙ ap bytes_value (take_all (8 * value_words) (part at value_bytes space) (omega (arith, long)))

-- nothing is carried past words that hold the sum
pub no_carry : (x y u P b : ℕ) (c : Bool) → x < b → y < b → b + b ≤ P → x + y ≡ u + P * bool_byte c → u ≡ x + y
no_carry x y u P b true hx hy h e = absurd (omega arith)
no_carry x y u P b false hx hy h e = omega arith

-- ---- how far apart two sizes are

-- all bits of a word, or none
abbrev mask_of : Bool → ℕ
mask_of below = bool_byte below * (2 ^ 64 - 1)

-- a word and its complement
complement : (x : ℕ) → x < 2 ^ 64 → bit_xor x (2 ^ 64 - 1) + x ≡ 2 ^ 64 - 1
complement x h = omega (arith, xor_add_and x (2 ^ 64 - 1), and_mask x 64)

-- the k low words of the absolute value: those given are negated if they are below zero
abbrev pub Absolute : Bool → ℕ → List ℕ → List ℕ → Bool → Type 0
Absolute true k given words c = Carried k words given [] c
Absolute false k given words c = Carried k words [] given c × (c ≡ false)

pub absolute_none : (below : Bool) (given words : List ℕ) → Absolute below 0 given words false
absolute_none true given words = carried_none words given []
absolute_none false given words = (carried_none words [] given, refl)

module _ (k : ℕ) (given words : List ℕ) (x : ℕ) (c d : Bool) (h : k < length words) (small : get_or given k 0 < 2 ^ 64) (next : x < 2 ^ 64) where
  pub absolute_more : (below : Bool) → x + mask_of below + bool_byte c ≡ bit_xor (get_or given k 0) (mask_of below) + bool_byte d * 2 ^ 64 → Absolute below k given words c
      → Absolute below (k + 1) given (set words k x) d
  absolute_more true e w = difference_stored k [] given words x c d h w (omega (arith, complement (get_or given k 0) small))
  absolute_more false e w =
      let f : x + 0 + bool_byte c ≡ get_or given k 0 + bool_byte d * 2 ^ 64 = rw xor_zero_r at e in
      (difference_stored k given [] words x c d h w.0 f, none d (rw w.1 at f))
    where
      none : (d : Bool) → x + 0 + 0 ≡ get_or given k 0 + bool_byte d * 2 ^ 64 → d ≡ false
      none true f = absurd (omega arith)
      none false f = refl

-- all n of them: the distance of two numbers, where one less the other was given
module _ (n x y : ℕ) (given words : List ℕ) (c : Bool) (hg : length given ≡ n) (hw : length words ≡ n) (lg : words_value given < (2 ^ 64) ^ n) (ly : y < (2 ^ 64) ^ n) where
  pub absolute_all : (below : Bool) → words_value given + y ≡ x + (2 ^ 64) ^ n * bool_byte below → Absolute below n given words c → (words_value words ≡ distance_of x y) × (below ≡ ltb x y)
  unfolding positional
  absolute_all true e u = from_zero (words_value given) (words_value words) ((2 ^ 64) ^ n) c lg ly e (rw (take_all n words (omega arith), take_all n given (omega arith), take-nil n) at u)
    where
      from_zero : (g v P : ℕ) (c : Bool) → g < P → y < P → g + y ≡ x + P * 1 → v + g ≡ 0 + P * bool_byte c → (v ≡ distance_of x y) × (true ≡ ltb x y)
      from_zero g v P true lg ly e f = (omega arith, sym (lt-ltb x y (omega arith)))
      from_zero g v P false lg ly e f = absurd (omega arith)
  absolute_all false e u =
      let v : words_value words + 0 ≡ words_value given + (2 ^ 64) ^ n * 0 = rw (take_all n words (omega arith), take_all n given (omega arith), take-nil n, u.1) at u.0 in
      (omega arith, sym (le-ltb x y (omega arith)))

-- ---- two sizes the same, word by word

split_same : (P u v x y : ℕ) → u < P → v < P → u + P * x ≡ v + P * y → (u ≡ v) × (x ≡ y)
split_same P u v x y hu hv e =
    let f : x * P + u ≡ y * P + v = omega (arith, mul_comm P x, mul_comm P y) in
    (sym (digits_mod x hu) ∙ ap (λ (n : ℕ). n % P) f ∙ digits_mod y hv, sym (digits_div x hu) ∙ ap (λ (n : ℕ). n / P) f ∙ digits_div y hv)

split_eqb : (P u v x y : ℕ) → u < P → v < P → (eqb u v && eqb x y) ≡ eqb (u + P * x) (v + P * y)
split_eqb P u v x y hu hv = go (eqb u v) refl (eqb x y) refl
  where
    go : (s : Bool) → eqb u v ≡ s → (t : Bool) → eqb x y ≡ t → (s && t) ≡ eqb (u + P * x) (v + P * y)
    go true s true t = rw (eqb-true u v s, eqb-true x y t) (sym (eq-eqb (v + P * y) (v + P * y) refl))
    go true s false t = sym (ne_eqb (u + P * x) (v + P * y) (λ e. eqb-false x y t (split_same P u v x y hu hv e).1))
    go false s b t = sym (ne_eqb (u + P * x) (v + P * y) (λ e. eqb-false u v s (split_same P u v x y hu hv e).0))

-- what differs so far, and another two words: none of it is left exactly where nothing differed, and these two are the same
pub none_differ : (d x y : ℕ) → eqb (bit_or d (bit_xor x y)) 0 ≡ (eqb d 0 && eqb x y)
none_differ d x y = go (eqb d 0) refl (eqb x y) refl
  where
    either : bit_or d (bit_xor x y) ≡ 0 → (d ≡ 0) × (bit_xor x y ≡ 0)
    either e = let sum = or_add_and d (bit_xor x y) in (omega (arith, and_le_r d (bit_xor x y)), omega (arith, and_le_l d (bit_xor x y)))

    same : bit_xor x y ≡ 0 → x ≡ y
    same e = omega (arith, xor_add_and x y, and_le_l x y, and_le_r x y)

    go : (s : Bool) → eqb d 0 ≡ s → (t : Bool) → eqb x y ≡ t → eqb (bit_or d (bit_xor x y)) 0 ≡ (s && t)
    go true s true t = rw (eqb-true d 0 s, eqb-true x y t, xor_self y)
    go true s false t = ne_eqb _ 0 (λ e. eqb-false x y t (same (either e).1))
    go false s b t = ne_eqb _ 0 (λ e. eqb-false d 0 s (either e).0)

-- the sizes at a and b, as far as their k low words
module _ (space : List ℕ) (a b : ℕ) where
  abbrev pub same_to : ℕ → Bool
  same_to k = eqb (words_value (take k (size_words space a))) (words_value (take k (size_words space b)))

  module _ (bytes : Below 256 space) where
    word_small : (at k : ℕ) → get_or (size_words space at) k 0 < 2 ^ 64
    unfolding size_words
    word_small at =
        below_tabulate (2 ^ 64) (word_at (part at value_bytes space)) value_words (λ k. word_lt (part at value_bytes space) k (size_bytes_lem space at bytes))

    low_small : (at k : ℕ) → words_value (take k (size_words space at)) < (2 ^ 64) ^ k
    low_small at k =
        positional_lt (2 ^ 64) k (take k (size_words space at)) (omega (arith, length-take k (size_words space at))) (below_take (2 ^ 64) k (size_words space at) (omega arith) (word_small at))

    pub same_more : (k : ℕ) → k < value_words → (same_to k && eqb (word_at (part a value_bytes space) k) (word_at (part b value_bytes space) k)) ≡ same_to (k + 1)
    same_more k h =
        rw (add-one, positional_take (2 ^ 64) k (size_words space a), positional_take (2 ^ 64) k (size_words space b), word_at_lem space a k h, word_at_lem space b k h)
        (split_eqb ((2 ^ 64) ^ k) _ _ _ _ (low_small a k) (low_small b k))

  pub same_all : a + value_bytes ≤ length space → b + value_bytes ≤ length space → same_to value_words ≡ eqb (bytes_value (part a value_bytes space)) (bytes_value (part b value_bytes space))
  same_all fa fb =
      rw (take_all value_words (size_words space a) (omega (arith, length_words space a)), take_all value_words (size_words space b) (omega (arith, length_words space b)), words_are space a fa, words_are space b fb)

-- the n low bytes of a number stand at `at`
abbrev pub low_placed : List ℕ → ℕ → ℕ → ℕ → List ℕ
low_placed l at n v = placed l at n (low_bytes n v)

module _ (l : List ℕ) (at k : ℕ) (words : List ℕ) where
  -- those of the next word above those of the first k
  pub size_more : {s t : List ℕ} → at ≤ length l → Below (2 ^ 64) words → s ≡ low_placed l at (8 * k) (words_value words) → t ≡ low_placed s (at + 8 * k) 8 (get_or words k 0)
      → t ≡ low_placed l at (8 * (k + 1)) (words_value words)
  size_more h b hs ht =
      let e : 8 * (k + 1) ≡ 8 * k + 8 = omega arith in
      let v : ℕ = words_value words in
      rw (ht, hs, e, place_more l at (8 * k) (low_bytes (8 * k) v) (length_low (8 * k) v) 8 (low_bytes 8 (get_or words k 0)) h, words_low words k 8 (omega arith) b)

  -- the lowest of the next word
  pub size_top : at + 8 * k < length l → Below (2 ^ 64) words
      → set (low_placed l at (8 * k) (words_value words)) (at + 8 * k) (get_or words k 0 % 256) ≡ low_placed l at (8 * k + 1) (words_value words)
  unfolding low_bytes
  size_top h b =
      let v : ℕ = words_value words in
      rw (place_one l at (8 * k) (low_bytes (8 * k) v) (length_low (8 * k) v) (get_or words k 0 % 256) h, words_low words k 1 (omega arith) b)
