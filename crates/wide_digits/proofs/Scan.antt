-- The scan of a number from the low end, a run of zeros or a digit at a time. Assumes nothing.
use mathlib.Core.Path.{◌≡◌, refl, sym, ◌∙◌, ap}
use mathlib.Core.Logic.{◌≢◌}
use mathlib.Core.Bool.{Bool, true, false, cond}
use mathlib.Core.List.{List}
use Prim.Native.Nat.{ℕ, ◌+◌, ◌*◌, ◌-◌, ◌<◌, ◌≤◌, ◌^◌, ◌%◌, ◌/◌}
use native.Mathlib.Decide.{dec_lt, ℕ_discrete}
use native.Mathlib.Nat.{mod-lt, div-one, mul-div_cancel_left, div-lt_iff_lt-mul}
use native.Mathlib.Omega.{arith}
use lib.Arith.{digits_div, digits_mod}
use lib.Count.{count_trailing_zeros}
use lib.Dec.{eqb}
use lib.ListN.{length, get_or, set, get_or-eq_default}
use lib.IntN.{ℤ, pos, neg_ℤ}
use lib.Pow.{pow-add, pow_pos, shr-shr, split, mod-mod-pow}
use lib.Seq.{get_or-set_same, get_or-set_other}
use Rattle.signed_digits.specs.Strings.{digit_at}
use Rattle.signed_digits.specs.Naf.{residue, naf}
use Rattle.signed_digits.specs.Bytes.{digit_byte}
use Rattle.signed_digits.proofs.Cons.{length_by_top}
use Rattle.signed_digits.proofs.Exists.{even_power, naf_form}
use Rattle.signed_digits.proofs.Left.{rests, digit_left}
use Rattle.signed_digits.proofs.Runs.{run_zeros, run_left, odd_digit, odd_zeros, odd_left, opposite_digits, opposite_length}
use Rattle.signed_digits.proofs.Width.{low_odd, form_length}
use Rattle.digit_strings.specs.Places.{place_byte}
use Rattle.wide_digits.specs.Form.{Blank, turned, FormIn}
use Rattle.wide_digits.specs.Internal.{load_bits, blank_places, left_at, nearest}
use Rattle.wide_digits.proofs.Load.{Trailing, trailing}

-- ---- the bits of a load

-- a number and a carry that are a multiple of 2 ^ g: the carry goes on above the g bits
carried : (n c g : ℕ) → c ≤ 1 → g ≤ load_bits → (n % 2 ^ load_bits + c) % 2 ^ g ≡ 0 → n + c ≡ 2 ^ g * (n / 2 ^ g + c)
carried n c g small few z = go (dec_lt (n % p + c) p)
  where
    p : ℕ
    p = 2 ^ g

    a : ℕ
    a = n % 2 ^ load_bits / p

    low : n % 2 ^ load_bits % p ≡ n % p
    low = let s : load_bits ≡ load_bits - g + g = omega arith in ap (λ (k : ℕ). n % 2 ^ k % p) s ∙ mod-mod-pow n (load_bits - g) g

    sum : n % 2 ^ load_bits + c ≡ a * p + (n % p + c)
    sum = omega (arith, split (n % 2 ^ load_bits) g, low)

    go : Dec (n % p + c < p) → n + c ≡ p * (n / p + c)
    go (yes l) =
        let none : n % p + c ≡ 0 = sym (digits_mod a l) ∙ ap (λ (x : ℕ). x % p) (sym sum) ∙ z in
        omega (arith, split n g, ap (λ (x : ℕ). p * x) (omega_zero none))
      where
        omega_zero : n % p + c ≡ 0 → c ≡ 0
        omega_zero e = omega arith
    go (no l) =
        let all : n % p + c ≡ p = omega (arith, mod-lt n (pow_pos g)) in
        let one : c ≡ 1 = omega (arith, mod-lt n (pow_pos g)) in
        omega (arith, split n g, ap (λ (x : ℕ). p * x) one)

-- What stands above the t trailing zeros of a load, o, and of what is left, m, differ by a multiple of 2 ^ 8.
above_zeros : (n c t w : ℕ) → c ≤ 1 → w ≤ 8 → Trailing blank_places (n % 2 ^ load_bits + c) t
    → (n + c ≡ 2 ^ t * (n / 2 ^ t + c)) × ((n / 2 ^ t + c) % 2 ^ w ≡ (n % 2 ^ load_bits + c) / 2 ^ t % 2 ^ w) × ((n / 2 ^ t + c) % 2 ≡ 1)
above_zeros n c t w small narrow tail = (multiple, low w narrow, rw (low 1 (omega arith)) tail.odd)
  where
    l : ℕ
    l = n % 2 ^ load_bits + c

    o : ℕ
    o = l / 2 ^ t

    even : l % 2 ^ t ≡ 0
    even = let e : l ≡ o * 2 ^ t + 0 = omega (arith, tail.whole) in ap (λ (x : ℕ). x % 2 ^ t) e ∙ digits_mod o (pow_pos t)

    multiple : n + c ≡ 2 ^ t * (n / 2 ^ t + c)
    multiple = carried n c t small (omega (arith, tail.few)) even

    cancel : {x y : ℕ} → 2 ^ t * x ≡ 2 ^ t * y → x ≡ y
    cancel {x} {y} e = sym (mul-div_cancel_left x (pow_pos t)) ∙ ap (λ (v : ℕ). v / 2 ^ t) e ∙ mul-div_cancel_left y (pow_pos t)

    low : (k : ℕ) → k ≤ 8 → (n / 2 ^ t + c) % 2 ^ k ≡ o % 2 ^ k
    low k h =
        let q : ℕ = n / 2 ^ load_bits in
        let rest : ℕ = 2 ^ (load_bits - t - k) in
        let s : load_bits ≡ t + (k + (load_bits - t - k)) = omega (arith, tail.few) in
        let p : 2 ^ load_bits ≡ 2 ^ t * (2 ^ k * rest) = ap (λ (i : ℕ). 2 ^ i) s ∙ pow-add 2 t (k + (load_bits - t - k)) ∙ ap (λ (x : ℕ). 2 ^ t * x) (pow-add 2 k (load_bits - t - k)) in
        let whole : n + c ≡ 2 ^ t * (2 ^ k * (rest * q) + o) =
        omega (arith, split n load_bits, ap (λ (x : ℕ). q * x) p, tail.whole) in
        let m : n / 2 ^ t + c ≡ (rest * q + o / 2 ^ k) * 2 ^ k + o % 2 ^ k =
        cancel (sym multiple ∙ whole) ∙ omega (arith, split o k) in
        rw m (digits_mod (rest * q + o / 2 ^ k) (mod-lt o (pow_pos k)))

-- ---- the scan

module _ (w sign n : ℕ) where
  abbrev form : List ℤ
  form = naf w (pos n)

  -- the byte at a place
  abbrev byte : ℕ → ℕ
  byte i = place_byte (naf w (turned sign (pos n))) i

  byte_is : (i : ℕ) → byte i ≡ digit_byte (turned sign (digit_at form i))
  unfolding place_byte
  byte_is i = go (eqb sign 0)
    where
      go : (t : Bool) → digit_byte (digit_at (naf w (cond t (pos n) (neg_ℤ (pos n)))) i) ≡ digit_byte (cond t (digit_at form i) (neg_ℤ (digit_at form i)))
      go true = refl
      go false = ap digit_byte (opposite_digits w n i)

  byte_none : (i : ℕ) → digit_at form i ≡ pos 0 → byte i ≡ 0
  byte_none i z = byte_is i ∙ rw z (go (eqb sign 0))
    where
      go : (t : Bool) → digit_byte (cond t (pos 0) (neg_ℤ (pos 0))) ≡ 0
      go true = refl
      go false = refl

  same_length : length (naf w (turned sign (pos n))) ≡ length form
  same_length = go (eqb sign 0)
    where
      go : (t : Bool) → length (naf w (cond t (pos n) (neg_ℤ (pos n)))) ≡ length form
      go true = refl
      go false = opposite_length w n

  -- The digits below a place stand in the buffer, and zeros above; the highest of them that is not 0 stands just below top.
  pub record Scanned (place carry top : ℕ) (out : List ℕ) : Type 0 where
    pub left : rests w place n ≡ n / 2 ^ place + carry
    pub small : carry ≤ 1
    pub below : (i : ℕ) → i < place → get_or out i 0 ≡ byte i
    pub above : (i : ℕ) → place ≤ i → get_or out i 0 ≡ 0
    pub zeros : (i : ℕ) → top ≤ i → i < place → digit_at form i ≡ pos 0
    pub last : 0 < top → digit_at form (top - 1) ≢ pos 0

  pub scanned_none : (out : List ℕ) → Blank out → Scanned 0 0 0 out
  unfolding rests
  scanned_none out blank = record {
    left = rw (div-one n) (omega arith);
    small = omega arith;
    below = λ i h. absurd (omega arith);
    above = λ i h. blank i;
    zeros = λ i h l. absurd (omega arith);
    last = λ h. absurd (omega arith);
  }

module _ (w : ℕ) (wide : 2 ≤ w) (narrow : w ≤ 8) (sign n : ℕ) where
  abbrev ds : List ℤ
  ds = naf w (pos n)

  module _ (place carry top : ℕ) (out : List ℕ) (inv : Scanned w sign n place carry top out) where
    -- past g zeros
    zeros_more : (g m : ℕ) → rests w place n ≡ 2 ^ g * m → (i : ℕ) → place ≤ i → i < place + g → digit_at ds i ≡ pos 0
    zeros_more g m e i h l = let s : i ≡ place + (i - place) = omega arith in rw s (run_zeros w wide n place g m e (i - place) (omega arith))

    past : (g : ℕ) → n / 2 ^ place + carry ≡ 2 ^ g * (n / 2 ^ place / 2 ^ g + carry) → Scanned w sign n (place + g) carry top out
    past g e =
        let f : rests w place n ≡ 2 ^ g * (n / 2 ^ place / 2 ^ g + carry) = inv.left ∙ e in
        record {
          left = run_left w wide n place g (n / 2 ^ place / 2 ^ g + carry) f ∙ rw (shr-shr n place g);
          small = inv.small;
          below = λ i h. at i h (dec_lt i place) (zeros_more g (n / 2 ^ place / 2 ^ g + carry) f i);
          above = λ i h. inv.above i (omega arith);
          zeros = λ i h l. none i h l (dec_lt i place) (zeros_more g (n / 2 ^ place / 2 ^ g + carry) f i);
          last = inv.last;
        }
      where
        at : (i : ℕ) → i < place + g → Dec (i < place) → (place ≤ i → i < place + g → digit_at ds i ≡ pos 0) → get_or out i 0 ≡ byte w sign n i
        at i h (yes l) z = inv.below i l
        at i h (no l) z = inv.above i (omega arith) ∙ sym (byte_none w sign n i (z (omega arith) h))

        none : (i : ℕ) → top ≤ i → i < place + g → Dec (i < place) → (place ≤ i → i < place + g → digit_at ds i ≡ pos 0) → digit_at ds i ≡ pos 0
        none i h l (yes k) z = inv.zeros i h k
        none i h l (no k) z = z (omega arith) l

    pub scanned_blank : (g : ℕ) → g ≤ load_bits → left_at n place carry % 2 ^ g ≡ 0 → Scanned w sign n (place + g) carry top out
    unfolding left_at
    scanned_blank g few z = past g (carried (n / 2 ^ place) carry g inv.small few z)

    -- past the trailing zeros of a load: what is left there is odd, and the load tells its low bits
    record Found (t : ℕ) : Type 0 where
      few : t < blank_places
      scanned : Scanned w sign n (place + t) carry top out
      odd : (n / 2 ^ (place + t) + carry) % 2 ≡ 1
      told : left_at n place carry / 2 ^ t % 2 ^ w ≡ (n / 2 ^ (place + t) + carry) % 2 ^ w

    scanned_zeros : left_at n place carry % 2 ^ blank_places ≢ 0 → Found (count_trailing_zeros 64 (left_at n place carry))
    unfolding left_at
    scanned_zeros some =
        let t : ℕ = count_trailing_zeros 64 (left_at n place carry) in
        let tail = trailing 64 blank_places (left_at n place carry) (omega arith) some in
        let a = above_zeros (n / 2 ^ place) carry t w inv.small narrow tail in
        record { few = tail.few; scanned = past t a.0; odd = rw (← shr-shr n place t) a.2; told = rw (← shr-shr n place t) (sym a.1) }

  -- the digit of an odd remainder
  nearest_is : (m : ℕ) → nearest (2 ^ (w - 1)) (m % 2 ^ w) ≡ residue w m
  unfolding nearest residue
  nearest_is m = rw (← even_power w (omega arith))

  module _ (place carry top : ℕ) (out : List ℕ) (inv : Scanned w sign n place carry top out) (odd : (n / 2 ^ place + carry) % 2 ≡ 1) where
    abbrev m : ℕ
    m = n / 2 ^ place + carry

    odd_rests : rests w place n % 2 ≡ 1
    odd_rests = rw inv.left odd

    digit_is : digit_at ds place ≡ residue w m
    digit_is = rw inv.left at (odd_digit w wide n place odd_rests)

    digit_some : digit_at ds place ≢ pos 0
    digit_some e = low_odd w wide (rests w place n) (omega (arith, odd_rests)) (sym (digit_left w wide place n) ∙ e)

    -- the carry is in the remainder, which is not 0
    same_above : m / 2 ^ w ≡ n / 2 ^ place / 2 ^ w
    same_above =
        let p : ℕ = 2 ^ w in
        let q : ℕ = m / p in
        let r : m % p ≢ 0 = λ z. omega (arith, split m w, odd, even_power w (omega arith), ap (λ (x : ℕ). q * x) (even_power w (omega arith))) in
        let e : n / 2 ^ place ≡ q * p + (m % p - carry) = omega (arith, split m w, inv.small) in
        sym (ap (λ (x : ℕ). x / p) e ∙ digits_div q (omega (arith, mod-lt m (pow_pos w))))

    scanned_digit : place < length out → Scanned w sign n (place + w) (m % 2 ^ w / 2 ^ (w - 1)) (place + 1) (set out place (digit_byte (turned sign (nearest (2 ^ (w - 1)) (m % 2 ^ w)))))
    scanned_digit room = record {
      left = rw inv.left at (odd_left w wide n place odd_rests) ∙ rw (same_above, shr-shr n place w);
      small = digit_carry;
      below = λ i h. at i h (dec_lt i place) (ℕ_discrete i place);
      above = λ i h. get_or-set_other out place i _ 0 (λ e. omega arith) ∙ inv.above i (omega arith);
      zeros = λ i h l. none i (omega arith) l;
      last = λ h. let e : place + 1 - 1 ≡ place = omega arith in rw e digit_some;
    }
      where
        digit_carry : m % 2 ^ w / 2 ^ (w - 1) ≤ 1
        digit_carry =
            let l : m % 2 ^ w / 2 ^ (w - 1) < 2 = (div-lt_iff_lt-mul (pow_pos (w - 1))).1 (omega (arith, mod-lt m (pow_pos w), even_power w (omega arith))) in
            omega arith

        none : (i : ℕ) → place < i → i < place + w → digit_at ds i ≡ pos 0
        none i h l = let s : i ≡ place + (i - place) = omega arith in rw s (odd_zeros w wide n place odd_rests (i - place) (omega arith) (omega arith))

        at : (i : ℕ) → i < place + w → Dec (i < place) → Dec (i ≡ place) → get_or (set out place (digit_byte (turned sign (nearest (2 ^ (w - 1)) (m % 2 ^ w))))) i 0 ≡ byte w sign n i
        at i h (yes l) _ = get_or-set_other out place i _ 0 (λ e. omega arith) ∙ inv.below i l
        at i h (no l) (yes e) = rw e (get_or-set_same out place _ 0 room ∙ rw (nearest_is m, ← digit_is) (sym (byte_is w sign n place)))
        at i h (no l) (no e) = get_or-set_other out place i _ 0 e ∙ inv.above i (omega arith) ∙ sym (byte_none w sign n i (none i (omega arith) h))

  -- ---- all of it

  module _ (bits : ℕ) (fits : n ≤ 2 ^ bits) where
    few : length ds ≤ bits + 1
    few = form_length w wide bits (pos n) fits

    digit_within : (place carry top : ℕ) (out : List ℕ) → Scanned w sign n place carry top out → (n / 2 ^ place + carry) % 2 ≡ 1 → place ≤ bits
    digit_within place carry top out inv odd = go (dec_lt place (length ds))
      where
        go : Dec (place < length ds) → place ≤ bits
        go (yes l) = omega (arith, few)
        go (no l) = absurd (digit_some place carry top out inv odd (get_or-eq_default ds (pos 0) {n = place} (omega arith)))

    pub scanned_all : (place carry top : ℕ) (out : List ℕ) → Scanned w sign n place carry top out → bits < place → bits < length out → FormIn w (turned sign (pos n)) out top
    scanned_all place carry top out inv past room = record {
      count = sym (same_length w sign n ∙ length_by_top ds top (naf_form w (pos n) wide).top above_top inv.last);
      within = omega (arith, few, length_by_top ds top (naf_form w (pos n) wide).top above_top inv.last);
      digit = λ i. at i (dec_lt i place);
    }
      where
        none : (i : ℕ) → place ≤ i → digit_at ds i ≡ pos 0
        none i h = get_or-eq_default ds (pos 0) {n = i} (omega (arith, few))

        above_top : (i : ℕ) → top ≤ i → digit_at ds i ≡ pos 0
        above_top i h = go (dec_lt i place)
          where
            go : Dec (i < place) → digit_at ds i ≡ pos 0
            go (yes l) = inv.zeros i h l
            go (no l) = none i (omega arith)

        at : (i : ℕ) → Dec (i < place) → get_or out i 0 ≡ byte w sign n i
        at i (yes l) = inv.below i l
        at i (no l) = inv.above i (omega arith) ∙ sym (byte_none w sign n i (none i (omega arith)))

    -- The digit past the t trailing zeros of a load, by its remainder r: it has room, and is taken with the zeros above it.
    pub record Taken (place : ℕ) (out : List ℕ) (t half r : ℕ) : Type 0 where
      pub few : t < blank_places
      pub odd : r % 2 ≡ 1
      pub below : r < 2 * half
      pub within : place + t ≤ bits
      pub scanned : Scanned w sign n (place + t + w) (r / half) (place + t + 1) (set out (place + t) (digit_byte (turned sign (nearest half r))))

    pub digit_taken : (place carry top : ℕ) (out : List ℕ) → Scanned w sign n place carry top out → bits < length out
        → (left half : ℕ) → left ≡ left_at n place carry → left % 2 ^ blank_places ≢ 0 → half ≡ 2 ^ (w - 1)
        → Taken place out (count_trailing_zeros 64 left) half (left / 2 ^ count_trailing_zeros 64 left % (2 * half))
    digit_taken place carry top out inv room left half load some e = rw load (at (scanned_zeros place carry top out inv (rw load at some)))
      where
        t : ℕ
        t = count_trailing_zeros 64 (left_at n place carry)

        m : ℕ
        m = n / 2 ^ (place + t) + carry

        twice : 2 ^ w ≡ 2 * 2 ^ (w - 1)
        twice = even_power w (omega arith)

        at : Found place carry top out inv t → Taken place out t half (left_at n place carry / 2 ^ t % (2 * half))
        at found =
            let remainder : left_at n place carry / 2 ^ t % (2 * half) ≡ m % 2 ^ w = rw (e, ← twice) found.told in
            let inside : place + t ≤ bits = digit_within (place + t) carry top out found.scanned found.odd in
            rw remainder (record {
              few = found.few;
              odd = omega (arith, split m w, found.odd, ap (λ (x : ℕ). m / 2 ^ w * x) twice);
              below = rw e (omega (arith, mod-lt m (pow_pos w), twice));
              within = inside;
              scanned = rw e (scanned_digit (place + t) carry top out found.scanned found.odd (omega arith));
            })
