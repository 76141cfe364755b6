-- What the answer tells: the bytes of a number have its value, and where there is none, why; and what a word is without its 0x. Assumes nothing.
use mathlib.Core.Path.{◌≡◌, refl, ◌∙◌}
use mathlib.Core.Logic.{◌↔◌, ◌⊎◌, inl, inr}
use mathlib.Core.List.{List, [], ◌∷◌, ◌++◌}
use Prim.Native.Nat.{ℕ, zero, suc, ◌+◌, ◌-◌, ◌*◌, ◌/◌, ◌%◌, ◌^◌, ◌<◌, ◌≤◌}
use native.Mathlib.Nat.{pow-suc, mul-add, mul_assoc, mul_comm, mul-zero, add-zero, add-suc}
use native.Mathlib.Omega.{arith}
use borrow.Author.Tests.{ne_eqb, lt-ltb, le-ltb, le-leb, lt-leb, ltb-true, ltb-false, leb-true, eqb-true, eqb-false}
use lib.ListN.{length, get_or, set, take, drop, drop_of_length-le}
use lib.Seq.{drop-cons, take-append_seam}
use native.Mathlib.Numerals.{add-one}
use mathlib.Core.Bool.{Bool, true, false, cond, ◌&&◌}
use lib.Dec.{eqb, ltb, leb}
use Rattle.integers.specs.Positional.{positional, bytes_value}
use Rattle.integers.specs.Tabulate.{tabulate}
use Rattle.integers.proofs.Tabulate.{length_tabulate, tabulate_same, tabulate_more, positional_tabulate}
use Rattle.hexadecimal.specs.Hex.{digit_value, place_value, byte_at, hex_value, is_hex, byte_count, parsed, parsed_buffer, is_prefix, without_prefix}
use Rattle.std.specs.Prelude.{Option, Some, None}
use Rattle.std.specs.Char.{is_ascii_hexdigit}

-- two digits to a byte
bytes_are_digits : (text : List ℕ) (n : ℕ) → (positional 256 (tabulate (byte_at text) n) ≡ positional 16 (tabulate (place_value text) (2 * n))) × (256 ^ n ≡ 16 ^ (2 * n))
unfolding positional tabulate
bytes_are_digits text zero = (refl, refl)
bytes_are_digits text (suc n) =
    let ih = bytes_are_digits text n in
    let d : ℕ → ℕ = place_value text in
    let P : ℕ = 16 ^ (2 * n) in
    let two : 2 * suc n ≡ suc (suc (2 * n)) = omega arith in
    let odd : 2 * n + 1 ≡ suc (2 * n) = omega arith in
    let more : P * (d (2 * n) + 16 * d (suc (2 * n))) ≡ P * d (2 * n) + P * 16 * d (suc (2 * n)) = rw (mul-add, mul_assoc) in (
      rw (positional_tabulate 256 (byte_at text) n, two, positional_tabulate 16 d (suc (2 * n)), positional_tabulate 16 d (2 * n), pow-suc, odd, ih.0, ih.1) (omega (arith, more)),
      rw (two, pow-suc, pow-suc, pow-suc, ih.1) (omega arith),
    )

-- the digits below the first, which are those of the text behind it
digit_behind : (c : ℕ) (text : List ℕ) (i : ℕ) → i < length text → place_value (c ∷ text) i ≡ place_value text i
unfolding place_value
digit_behind c text i h =
    let e : length (c ∷ text) - 1 - i ≡ suc (length text - 1 - i) = omega arith in
    simp (lt-ltb i (length text) h, lt-ltb i (length (c ∷ text)) (omega arith), e)

first_digit : (c : ℕ) (text : List ℕ) → place_value (c ∷ text) (length text) ≡ digit_value c % 16
unfolding place_value
first_digit c text =
    let e : length (c ∷ text) - 1 - length text ≡ 0 = omega arith in
    simp (lt-ltb (length text) (length (c ∷ text)) (omega arith), e)

above : (text : List ℕ) (i : ℕ) → length text ≤ i → place_value text i ≡ 0
unfolding place_value
above text i h = simp (le-ltb i (length text) h)

digits_have_value : (text : List ℕ) → positional 16 (tabulate (place_value text) (length text)) ≡ hex_value text
unfolding positional tabulate hex_value
digits_have_value [] = refl
digits_have_value (c ∷ text) =
    rw (positional_tabulate 16 (place_value (c ∷ text)) (length text), tabulate_same (place_value (c ∷ text)) (place_value text) (length text) (digit_behind c text), digits_have_value text, first_digit c text)
    (omega (arith, mul_comm (16 ^ length text) (digit_value c % 16)))

-- zeros above the first digit change nothing
digits_above : (text : List ℕ) (m : ℕ) → positional 16 (tabulate (place_value text) (length text + m)) ≡ hex_value text
digits_above text zero = rw add-zero (digits_have_value text)
digits_above text (suc m) =
    rw (add-suc, positional_tabulate 16 (place_value text) (length text + m), above text (length text + m) (omega arith), mul-zero, add-zero) (digits_above text m)

has_value : (text : List ℕ) (n : ℕ) → length text ≤ 2 * n → bytes_value (tabulate (byte_at text) n) ≡ hex_value text
has_value text n h =
    let e : 2 * n ≡ length text + (2 * n - length text) = omega arith in
    (bytes_are_digits text n).0 ∙ rw e (digits_above text (2 * n - length text))

-- as many bytes as the digits need, at the start of a buffer
front_value : (text rest : List ℕ) → bytes_value (take (byte_count text) (tabulate (byte_at text) (byte_count text) ++ rest)) ≡ hex_value text
front_value text rest =
    let n : ℕ = byte_count text in
    let t : List ℕ = tabulate (byte_at text) n in
    let seam : take n (t ++ rest) ≡ t = rw (length_tabulate (byte_at text) n) at (take-append_seam t rest) in
    rw seam (has_value text n (omega arith))

-- ---- the answer, by the tests that lead to it

module _ (text : List ℕ) (room : ℕ) where
  pub no_number : (length text ≡ 0) ⊎ (room < byte_count text) ⊎ (is_hex text ≡ false) → None ≡ parsed text room
  unfolding parsed
  no_number (inl z) = simp z
  no_number (inr (inl h)) = simp (lt-ltb room (byte_count text) h) (either (eqb (length text) 0) None)
    where
      either : (b : Bool) (o : Option ℕ) → o ≡ cond b o o
      either true o = refl
      either false o = refl
  no_number (inr (inr e)) = simp e (go (eqb (length text) 0) (ltb room (byte_count text)))
    where
      go : (a b : Bool) → ◌≡◌ {A = Option ℕ} None (cond a None (cond b None None))
      go true b = refl
      go false true = refl
      go false false = refl

  pub number : (length text ≡ 0 → ⊥) → byte_count text ≤ room → is_hex text ≡ true → Some (byte_count text) ≡ parsed text room
  unfolding parsed
  number some h e = simp (ne_eqb (length text) 0 some, le-ltb room (byte_count text) h, e)

-- a number takes as many bytes as its digits need
parsed_count : (text : List ℕ) (room n : ℕ) → parsed text room ≡ Some n → byte_count text ≡ n
unfolding parsed
parsed_count text room n = go (eqb (length text) 0) (ltb room (byte_count text)) (is_hex text)
  where
    go : (none short hex : Bool) → cond none None (cond short None (cond hex (Some (byte_count text)) None)) ≡ Some n → byte_count text ≡ n
    go true short hex e = cc
    go false true hex e = cc
    go false false true e = cc
    go false false false e = cc

-- where the answer is a number of this many bytes, these bytes have its value
pub parsed_value : (text bytes : List ℕ) (n : ℕ) → parsed text (length bytes) ≡ Some n → bytes_value (take n (parsed_buffer text bytes)) ≡ hex_value text
parsed_value text bytes n e =
    let m = parsed_count text (length bytes) n e in
    rw (e, ← m) (front_value text (drop (byte_count text) bytes))

-- ---- the tests and sums of the code

below : {A : Type 0} (c n : ℕ) → (c < n → A) → (n ≤ c → A) → A
below {A} c n f g = go (ltb c n) refl
  where
    go : (b : Bool) → ltb c n ≡ b → A
    go true e = f (ltb-true c n e)
    go false e = g (ltb-false c n e)

-- a digit by its ranges, and its value by its halves
pub digit_law : (c : ℕ) → (is_ascii_hexdigit c ≡ leb (digit_value c) 15) × (digit_value c ≤ 15 → c % 16 + c / 64 * 9 ≡ digit_value c)
unfolding digit_value
digit_law c =
    below c 48 (λ h. simp (lt-ltb c 48 h, lt-leb 48 c h, lt-leb 65 c (omega arith), lt-leb 97 c (omega arith)) (refl, λ d. absurd (omega arith)))
    (λ a. below c 58 (λ h. simp (le-ltb c 48 a, le-leb 48 c a, le-leb c 57 (omega arith), le-leb (c - 48) 15 (omega arith)) (refl, λ d. omega arith))
    (λ b. below c 65 (λ h. simp (le-ltb c 48 a, le-leb 48 c a, lt-leb c 57 (omega arith), lt-ltb c 65 h, lt-leb 65 c h, lt-leb 97 c (omega arith)) (refl, λ d. absurd (omega arith)))
    (λ d. below c 71 (λ h. simp (le-ltb c 48 a, le-leb 48 c a, lt-leb c 57 b, le-ltb c 65 d, le-leb 65 c d, le-leb c 70 (omega arith), le-leb (c - 65 + 10) 15 (omega arith)) (refl, λ v. omega arith))
    (λ e. below c 97 (λ h. simp (le-ltb c 48 a, le-leb 48 c a, lt-leb c 57 b, le-ltb c 65 d, le-leb 65 c d, lt-leb c 70 e, lt-ltb c 97 h, lt-leb 97 c h) (refl, λ v. absurd (omega arith)))
    (λ f. below c 103 (λ h. simp (le-ltb c 48 a, le-leb 48 c a, lt-leb c 57 b, le-ltb c 65 d, le-leb 65 c d, lt-leb c 70 e, le-ltb c 97 f, le-leb 97 c f, le-leb c 102 (omega arith), le-leb (c - 97 + 10) 15 (omega arith)) (refl, λ v. omega arith))
    (λ g. simp (le-ltb c 48 a, le-leb 48 c a, lt-leb c 57 b, le-ltb c 65 d, le-leb 65 c d, lt-leb c 70 e, le-ltb c 97 f, le-leb 97 c f, lt-leb c 102 g) (refl, λ v. absurd (omega arith))))))))

-- one digit more, or a byte that is none
pub digit_passed : (text : List ℕ) (i : ℕ) → i < length text → digit_value (get_or text i 0) ≤ 15 → is_hex (drop i text) ≡ is_hex (drop (i + 1) text)
unfolding is_hex
digit_passed text i h d = rw (add-one, drop-cons text i 0) (simp (le-ltb 15 (digit_value (get_or text i 0)) d))

pub not_digit : (text : List ℕ) (i : ℕ) → i < length text → 15 < digit_value (get_or text i 0) → is_hex (drop i text) ≡ false
unfolding is_hex
not_digit text i h d = rw (drop-cons text i 0) (simp (lt-ltb 15 (digit_value (get_or text i 0)) d))

pub all_passed : (text : List ℕ) (i : ℕ) → length text ≤ i → is_hex (drop i text) ≡ true
unfolding is_hex
all_passed text i h = rw (drop_of_length-le text {i = i} h)

-- the same beside what was found before
pub next_tested : (text : List ℕ) (i : ℕ) (all : Bool) → i < length text → (all && is_hex (drop i text)) ≡ (all && leb (digit_value (get_or text i 0)) 15 && is_hex (drop (i + 1) text))
next_tested text i false h = refl
next_tested text i true h =
    let d : ℕ = digit_value (get_or text i 0) in
    below 15 d (λ n. rw (not_digit text i h n, lt-leb d 15 n)) (λ y. rw (digit_passed text i h y, le-leb d 15 y))

pub all_tested : (text : List ℕ) (i : ℕ) (all : Bool) → length text ≤ i → (all && is_hex (drop i text)) ≡ all
all_tested text i false h = refl
all_tested text i true h = all_passed text i h

-- where all are digits, each is
both : (none rest : Bool) → cond none false rest ≡ true → (none ≡ false) × (rest ≡ true)
both true rest e = let z : ◌≡◌ {A = ℕ} 0 1 = cc in absurd (omega arith)
both false rest e = (refl, e)

each : (text : List ℕ) (i : ℕ) → is_hex text ≡ true → i < length text → digit_value (get_or text i 0) ≤ 15
unfolding is_hex
each [] i e h = absurd (omega arith)
each (c ∷ text) zero e h = ltb-false 15 (digit_value c) (both (ltb 15 (digit_value c)) (is_hex text) e).0
each (c ∷ text) (suc i) e h = each text i (both (ltb 15 (digit_value c)) (is_hex text) e).1 (omega arith)

-- the digit at a place
pub digit_here : (text : List ℕ) (place : ℕ) → is_hex text ≡ true → place < length text
    → (get_or text (length text - 1 - place) 0 % 16 + get_or text (length text - 1 - place) 0 / 64 * 9 ≡ place_value text place) × (place_value text place < 16)
unfolding place_value
digit_here text place e h =
    let d : ℕ = get_or text (length text - 1 - place) 0 in
    let small = each text (length text - 1 - place) e (omega arith) in
    let law = (digit_law d).1 small in
    simp (lt-ltb place (length text) h) (omega arith, omega arith)

-- the first of an odd number of digits is a byte
pub odd_byte : (text : List ℕ) (k : ℕ) → length text ≡ 2 * k + 1 → place_value text (2 * k) ≡ byte_at text k
odd_byte text k h = omega (arith, above text (2 * k + 1) (omega arith))

-- one byte more is written
pub byte_more : (text bytes : List ℕ) (k : ℕ) {byte : ℕ} → byte ≡ byte_at text k → k < length bytes
    → set (tabulate (byte_at text) k ++ drop k bytes) k byte ≡ tabulate (byte_at text) (k + 1) ++ drop (k + 1) bytes
byte_more text bytes k e h = rw e (tabulate_more (byte_at text) bytes k h)

-- of an odd number of digits the first, behind the bytes of the others, is the last byte
pub odd_end : (text bytes now : List ℕ) (digit : ℕ) → length text % 2 ≡ 1 → now ≡ tabulate (byte_at text) (length text / 2) ++ drop (length text / 2) bytes
    → digit ≡ place_value text (2 * (length text / 2)) → byte_count text ≤ length bytes
    → set now (length text / 2) digit ≡ tabulate (byte_at text) (byte_count text) ++ drop (byte_count text) bytes
odd_end text bytes now digit odd e d room =
    let half : ℕ = length text / 2 in
    let count : byte_count text ≡ half + 1 = omega arith in
    rw (count, e) (byte_more text bytes half (d ∙ odd_byte text half (omega arith)) (omega arith))

-- ---- where there is no number

-- a byte of the text is no digit
abbrev pub Other : List ℕ → Type 0
Other text = (i : ℕ) × (i < length text) × (digit_value (get_or text i 0) ≡ 16)

-- what is above 15 is 16
digit_or_16 : (c : ℕ) → 15 < digit_value c → digit_value c ≡ 16
unfolding digit_value
digit_or_16 c = go (ltb c 48) (leb c 57) refl (ltb c 65) (leb c 70) refl (ltb c 97) (leb c 102) refl
  where
    go : (a b : Bool) → leb c 57 ≡ b → (d e : Bool) → leb c 70 ≡ e → (f g : Bool) → leb c 102 ≡ g
        → 15 < cond a 16 (cond b (c - 48) (cond d 16 (cond e (c - 65 + 10) (cond f 16 (cond g (c - 97 + 10) 16)))))
        → cond a 16 (cond b (c - 48) (cond d 16 (cond e (c - 65 + 10) (cond f 16 (cond g (c - 97 + 10) 16))))) ≡ 16
    go true b u d e v f g w h = refl
    go false true u d e v f g w h = absurd (omega (arith, leb-true c 57 u))
    go false false u true e v f g w h = refl
    go false false u false true v f g w h = absurd (omega (arith, leb-true c 70 v))
    go false false u false false v true g w h = refl
    go false false u false false v false true w h = absurd (omega (arith, leb-true c 102 w))
    go false false u false false v false false w h = refl

-- not all bytes are digits exactly where one is none
other_byte : (text : List ℕ) → is_hex text ≡ false → Other text
unfolding is_hex
other_byte [] e = let z : ◌≡◌ {A = ℕ} 0 1 = cc in absurd (omega arith)
other_byte (c ∷ text) e = go (ltb 15 (digit_value c)) refl e (λ k. other_byte text k)
  where
    go : (b : Bool) → ltb 15 (digit_value c) ≡ b → cond b false (is_hex text) ≡ false → (is_hex text ≡ false → Other text) → Other (c ∷ text)
    go true t e rest = (0, omega arith, digit_or_16 c (ltb-true 15 (digit_value c) t))
    go false t e rest = let o = rest e in (suc o.0, omega (arith, o.1), o.2)

not_all : (text : List ℕ) (i : ℕ) → i < length text → digit_value (get_or text i 0) ≡ 16 → is_hex text ≡ false
unfolding is_hex
not_all [] i h d = absurd (omega arith)
not_all (c ∷ text) zero h d = simp (lt-ltb 15 (digit_value c) (omega arith))
not_all (c ∷ text) (suc i) h d = go (ltb 15 (digit_value c)) (not_all text i (omega arith) d)
  where
    go : (b : Bool) → is_hex text ≡ false → cond b false (is_hex text) ≡ false
    go true e = refl
    go false e = e

-- there is no number exactly where the text is empty, or has a byte that is no digit, or there is too little room
pub not_hex : (text : List ℕ) (room : ℕ) → parsed text room ≡ None ↔ (length text ≡ 0) ⊎ Other text ⊎ (room < byte_count text)
unfolding parsed
not_hex text room = (
  to (eqb (length text) 0) refl (ltb room (byte_count text)) refl (is_hex text) refl,
  from (eqb (length text) 0) refl (ltb room (byte_count text)) refl (is_hex text) refl,
)
  where
    to : (none : Bool) → eqb (length text) 0 ≡ none → (short : Bool) → ltb room (byte_count text) ≡ short → (hex : Bool) → is_hex text ≡ hex
        → cond none None (cond short None (cond hex (Some (byte_count text)) None)) ≡ None → (length text ≡ 0) ⊎ Other text ⊎ (room < byte_count text)
    to true n short s hex x e = inl (eqb-true (length text) 0 n)
    to false n true s hex x e = inr (inr (ltb-true room (byte_count text) s))
    to false n false s true x e = cc
    to false n false s false x e = inr (inl (other_byte text x))

    from : (none : Bool) → eqb (length text) 0 ≡ none → (short : Bool) → ltb room (byte_count text) ≡ short → (hex : Bool) → is_hex text ≡ hex
        → (length text ≡ 0) ⊎ Other text ⊎ (room < byte_count text) → cond none None (cond short None (cond hex (Some (byte_count text)) None)) ≡ None
    from true n short s hex x why = refl
    from false n true s hex x why = refl
    from false n false s false x why = refl
    from false n false s true x (inl z) = absurd (eqb-false (length text) 0 n z)
    from false n false s true x (inr (inl (i, h, d))) =
        let other : is_hex text ≡ false = not_all text i h d in
        let z : ◌≡◌ {A = ℕ} 0 1 = cc in
        absurd (omega arith)
    from false n false s true x (inr (inr h)) = absurd (omega (arith, ltb-false room (byte_count text) s))

-- ---- the 0x in front

-- 0x and 0X are left out
pub without_small_x : (rest : List ℕ) → without_prefix (48 ∷ 120 ∷ rest) ≡ rest
unfolding without_prefix is_prefix
without_small_x rest = simp (le-ltb (length (48 ∷ 120 ∷ rest)) 2 (omega arith))

pub without_capital_x : (rest : List ℕ) → without_prefix (48 ∷ 88 ∷ rest) ≡ rest
unfolding without_prefix is_prefix
without_capital_x rest = simp (le-ltb (length (48 ∷ 88 ∷ rest)) 2 (omega arith))

-- a word that begins with 0x or 0X
abbrev pub Prefixed : List ℕ → Type 0
Prefixed word = (rest : List ℕ) × ((word ≡ 48 ∷ 120 ∷ rest) ⊎ (word ≡ 48 ∷ 88 ∷ rest))

-- any other stays as it is
pub without_other : (word : List ℕ) → (Prefixed word → ⊥) → without_prefix word ≡ word
unfolding without_prefix is_prefix
without_other [] n = refl
without_other (c ∷ []) n = refl
without_other (c ∷ d ∷ rest) n = go (ltb (length (c ∷ d ∷ rest)) 2) (eqb c 48) refl (eqb d 120) refl (eqb d 88) refl
  where
    go : (short nought : Bool) → eqb c 48 ≡ nought → (small : Bool) → eqb d 120 ≡ small → (capital : Bool) → eqb d 88 ≡ capital
        → cond short (c ∷ d ∷ rest) (cond nought (cond (cond small true capital) rest (c ∷ d ∷ rest)) (c ∷ d ∷ rest)) ≡ c ∷ d ∷ rest
    go true nought z small u capital v = refl
    go false false z small u capital v = refl
    go false true z true u capital v = absurd (n (rest, inl (rw (eqb-true c 48 z, eqb-true d 120 u))))
    go false true z false u true v = absurd (n (rest, inr (rw (eqb-true c 48 z, eqb-true d 88 v))))
    go false true z false u false v = refl
