-- Every method that is allowed: which they are, and that the steps are sound, end at the number, are no more than a plan may have, and hide no doubling,
-- and how many bits the largest size has. Assumes nothing.
use Rattle.std.specs.Prelude.{Result, Ok, Err}
use mathlib.Core.Path.{◌≡◌, refl, sym}
use mathlib.Core.Logic.{◌↔◌, ⊎_elim}
use mathlib.Core.List.Memᴰ
use mathlib.Core.List.{List, [], ◌∷◌, map, Memᴰ}
use Prim.Native.Nat.{ℕ, zero, suc, ◌+◌, ◌*◌, ◌-◌, ◌^◌, ◌<◌, ◌≤◌}
use borrow.Author.Tests.{le-leb, lt-leb}
use native.Mathlib.Decide.{dec_lt, ℕ_discrete}
use native.Mathlib.Omega.{arith}
use lib.ListN.{length}
use lib.Pow.{pow_mono}
use Rattle.rules.specs.Limits.{plan_steps, least_width, largest_width}
use Rattle.rules.specs.declared.Refusal.{Refusal}
use Rattle.rules.specs.declared.Refusal.TheVariants.{MethodOrWidth}
use Rattle.integers.specs.Bits.{bit_length}
use Rattle.chains.specs.Counts.{NoHiddenDoubling}
use Rattle.chains.specs.Largest.{largest_bits}
use Rattle.methods.specs.declared.Method.{Method}
use Rattle.methods.specs.declared.Method.TheVariants.{Binary, FixedWindows, SlidingWindows, Naf, WideNaf, ModifiedNaf}
use Rattle.methods.specs.Widths.{fixed_window_bits, sliding_window_bits}
use Rattle.methods.specs.Method.{steps_by, method_number, method_width, Entry, methods, within, numbered, method_of, Allowed, count_from, every_width, choices}
use Rattle.methods.specs.Largest.{largest_bits_by}
use Rattle.methods.proofs.Laws.{Plannable, Fit}
use Rattle.methods.proofs.Binary.{binary_fit, binary_short, binary_unhidden, binary_largest}
use Rattle.methods.proofs.FixedWindows.{fixed_fit, fixed_short, fixed_unhidden, fixed_largest}
use Rattle.methods.proofs.SlidingWindows.{sliding_fit, sliding_short, sliding_unhidden, sliding_largest}
use Rattle.methods.proofs.NonAdjacentForm.{naf_fit, naf_short, naf_bits, naf_unhidden, naf_largest}
use Rattle.methods.proofs.WideNaf.{wide_fit, wide_short, wide_unhidden, wide_largest}
use Rattle.methods.proofs.ModifiedNaf.{modified_length, modified_fit, modified_short, modified_unhidden, modified_largest}

-- ---- what two numbers ask for

module _ (method : Method) (width least most : ℕ) where
  -- the method, or refusal 3 for a width that is too narrow or too wide
  pub data Within : Result Method Refusal → Type 0 where
    allowed : {m : Method} → m ≡ method → least ≤ width → width ≤ most → Within (Ok m)
    too_narrow : {r : Refusal} → r ≡ MethodOrWidth → width < least → Within (Err r)
    too_wide : {r : Refusal} → r ≡ MethodOrWidth → least ≤ width → most < width → Within (Err r)

  pub within_only : {c : Result Method Refusal} → Within c → within method width least most ≡ c
  unfolding within
  within_only (allowed e l h) = rw (le-leb least width l, le-leb width most h, e)
  within_only (too_narrow e h) = rw (lt-leb least width h, e)
  within_only (too_wide e l h) = rw (le-leb least width l, lt-leb width most h, e)

  within_one : Within (within method width least most)
  within_one = go (dec_lt width least) (dec_lt most width)
    where
      go : Dec (width < least) → Dec (most < width) → Within (within method width least most)
      go (yes h) _ = let t = too_narrow refl h in rw (within_only t) t
      go (no n) (yes h) = let t = too_wide refl (omega arith) h in rw (within_only t) t
      go (no n) (no h) = let t = allowed refl (omega arith) (omega arith) in rw (within_only t) t

  within_is : {m : Method} → within method width least most ≡ Ok m → (m ≡ method) × (least ≤ width) × (width ≤ most)
  within_is e = elim (rw e at within_one) [ allowed q l h ↦ (q, l, h) ]

  within_3 : {r : Refusal} → within method width least most ≡ Err r → r ≡ MethodOrWidth
  within_3 e = elim (rw e at within_one) [ too_narrow q h ↦ q | too_wide q l h ↦ q ]

-- the two numbers that ask for a method are its own
pub asked : (method width : ℕ) {m : Method} → method_of method width ≡ Ok m → (method_number m ≡ method) × (method_width m ≡ width)
unfolding method_of numbered
asked zero width e = let z : ◌≡◌ {A = ℕ} 0 1 = cc in absurd (omega arith)
asked (suc zero) width e = let w = within_is Binary width 0 0 e in rw w.0 (refl, omega arith)
asked (suc (suc zero)) width e = let w = within_is (FixedWindows width) width 1 fixed_window_bits e in rw w.0 (refl, refl)
asked (suc (suc (suc zero))) width e = let w = within_is (SlidingWindows width) width 1 sliding_window_bits e in rw w.0 (refl, refl)
asked (suc (suc (suc (suc zero)))) width e = let w = within_is Naf width 0 0 e in rw w.0 (refl, omega arith)
asked (suc (suc (suc (suc (suc zero))))) width e = let w = within_is (WideNaf width) width least_width largest_width e in rw w.0 (refl, refl)
asked (suc (suc (suc (suc (suc (suc zero)))))) width e = let w = within_is ModifiedNaf width 0 0 e in rw w.0 (refl, omega arith)
asked (suc (suc (suc (suc (suc (suc (suc n))))))) width e = let z : ◌≡◌ {A = ℕ} 0 1 = cc in absurd (omega arith)

pub is_allowed : (method width : ℕ) {m : Method} → method_of method width ≡ Ok m → Allowed m
is_allowed method width e = let a = asked method width e in rw (a.0, a.1) e

numbered_3 : (ms : List Entry) (n width : ℕ) {r : Refusal} → numbered ms n width ≡ Err r → r ≡ MethodOrWidth
unfolding numbered
numbered_3 [] n width e = cc
numbered_3 (m ∷ ms) zero width e = within_3 (m.method width) width m.least m.most e
numbered_3 (m ∷ ms) (suc n) width e = numbered_3 ms n width e

-- any other two are refused by 3
pub refused_3 : (method width : ℕ) {r : Refusal} → method_of method width ≡ Err r → r ≡ MethodOrWidth
unfolding method_of
refused_3 zero width e = cc
refused_3 (suc n) width e = numbered_3 methods n width e

-- ---- the list of choices has the methods that are allowed, and no other

counted : (k n d : ℕ) → k ≤ d → d < k + n → Memᴰ d (count_from k n)
unfolding count_from
counted k zero d l h = absurd (omega arith)
counted k (suc n) d l h =
    elim (ℕ_discrete d k) [ yes e ↦ Memᴰ.head e | no e ↦ Memᴰ.tail (counted (suc k) n d (omega arith) (omega arith)) ]

between : (k n d : ℕ) → Memᴰ d (count_from k n) → (k ≤ d) × (d < k + n)
unfolding count_from
between k zero d m = absurd (Memᴰ.not-nil m)
between k (suc n) d m =
    ⊎_elim (λ (e : d ≡ k). (omega arith, omega arith)) (λ t. let b = between (suc k) n d t in (omega arith, omega arith)) (Memᴰ.cases_cons m)

in_list : (ms : List Entry) (n width : ℕ) {m : Method} → numbered ms n width ≡ Ok m → Memᴰ m (every_width ms)
unfolding numbered every_width
in_list [] n width e = let z : ◌≡◌ {A = ℕ} 0 1 = cc in absurd (omega arith)
in_list (x ∷ ms) zero width e =
    let w = within_is (x.method width) width x.least x.most e in
    Memᴰ.append_left (every_width ms) (Memᴰ.cast w.0 (Memᴰ.map x.method (counted x.least (suc x.most - x.least) width w.1 (omega arith))))
in_list (x ∷ ms) (suc n) width e =
    Memᴰ.append_right (map x.method (count_from x.least (suc x.most - x.least))) (in_list ms n width e)

from_list : (ms : List Entry) {m : Method} → Memᴰ m (every_width ms) → (n : ℕ) × (width : ℕ) × (numbered ms n width ≡ Ok m)
unfolding numbered every_width
from_list [] h = absurd (Memᴰ.not-nil h)
from_list (x ∷ ms) {m} h =
    ⊎_elim
    (λ (here : Memᴰ m (map x.method (count_from x.least (suc x.most - x.least)))).
    let w = Memᴰ.of_map x.method (count_from x.least (suc x.most - x.least)) here in
    let b = between x.least (suc x.most - x.least) w.0 w.1 in
    (0, w.0, within_only (x.method w.0) w.0 x.least x.most (allowed (sym w.2) b.0 (omega arith))))
    (λ later. let w = from_list ms later in (suc w.0, w.1, w.2))
    (Memᴰ.append_cases (map x.method (count_from x.least (suc x.most - x.least))) h)

choice : (method width : ℕ) {m : Method} → method_of method width ≡ Ok m → Memᴰ m choices
unfolding method_of
choice zero width e = let z : ◌≡◌ {A = ℕ} 0 1 = cc in absurd (omega arith)
choice (suc n) width e = in_list methods n width e

pub listed : (m : Method) → Memᴰ m choices ↔ Allowed m
unfolding method_of
listed m =
    (λ h. let w = from_list methods h in is_allowed (suc w.0) w.1 w.2, λ e. choice (method_number m) (method_width m) e)

-- ---- the widths of windows, and of a non-adjacent form

pub fixed_widths : {d : ℕ} → Allowed (FixedWindows d) → (1 ≤ d) × (d ≤ fixed_window_bits)
unfolding method_of numbered
fixed_widths {d} e = let w = within_is (FixedWindows d) d 1 fixed_window_bits e in (w.1, w.2)

pub sliding_widths : {d : ℕ} → Allowed (SlidingWindows d) → (1 ≤ d) × (d ≤ sliding_window_bits)
unfolding method_of numbered
sliding_widths {d} e = let w = within_is (SlidingWindows d) d 1 sliding_window_bits e in (w.1, w.2)

pub wide_widths : {w : ℕ} → Allowed (WideNaf w) → (least_width ≤ w) × (w ≤ largest_width)
unfolding method_of numbered
wide_widths {w} e = let v = within_is (WideNaf w) w least_width largest_width e in (v.1, v.2)

-- ---- the steps

-- a line a method
pub every_fit : (m : Method) (e : ℕ) → Allowed m → Plannable e → Fit (steps_by m e) e
every_fit Binary e a p = binary_fit e p
every_fit (FixedWindows d) e a p = let w = fixed_widths a in fixed_fit e d p w.0 w.1
every_fit (SlidingWindows d) e a p = let w = sliding_widths a in sliding_fit e d p w.0 w.1
every_fit Naf e a p = naf_fit e p
every_fit (WideNaf w) e a p = let v = wide_widths a in wide_fit e w p v.0 v.1
every_fit ModifiedNaf e a p = modified_fit e p

-- ---- how many there are, over the bit length, however large the number

-- a method's table has at most two to this many steps: method 5 has method 3's table for w - 1
abbrev pub table_bits : Method → ℕ
table_bits Binary = 0
table_bits (FixedWindows d) = d
table_bits (SlidingWindows d) = d
table_bits Naf = 0
table_bits (WideNaf w) = w - 1
table_bits ModifiedNaf = 0

pub every_short : (m : Method) (e : ℕ) → Allowed m → 0 < e → length (steps_by m e) ≤ 2 ^ table_bits m + 2 * bit_length e
every_short Binary e a some = omega (arith, binary_short e some)
every_short (FixedWindows d) e a some = omega (arith, fixed_short e d some (fixed_widths a).0)
every_short (SlidingWindows d) e a some = omega (arith, sliding_short e d some (sliding_widths a).0)
every_short Naf e a some = omega (arith, naf_short e some, naf_bits e)
every_short (WideNaf w) e a some = omega (arith, wide_short e w some (wide_widths a).0)
every_short ModifiedNaf e a some = omega (arith, modified_short e some, modified_length e)

-- and that is below the limit
pub every_below : (m : Method) (e : ℕ) → Allowed m → Plannable e → 2 ^ table_bits m + 2 * bit_length e < plan_steps
every_below Binary e a p = omega (arith, p.bits)
every_below (FixedWindows d) e a p = omega (arith, p.bits, pow_mono {i = d} {j = fixed_window_bits} (fixed_widths a).1)
every_below (SlidingWindows d) e a p = omega (arith, p.bits, pow_mono {i = d} {j = sliding_window_bits} (sliding_widths a).1)
every_below Naf e a p = omega (arith, p.bits)
every_below (WideNaf w) e a p = omega (arith, p.bits, pow_mono {i = w - 1} {j = largest_width - 1} (omega (arith, (wide_widths a).1)))
every_below ModifiedNaf e a p = omega (arith, p.bits)

-- ---- no doubling is hidden, whatever the method and however large the number

pub every_unhidden : (m : Method) (e : ℕ) → Allowed m → 0 < e → NoHiddenDoubling (steps_by m e)
every_unhidden Binary e a some = binary_unhidden e some
every_unhidden (FixedWindows d) e a some = fixed_unhidden e d
every_unhidden (SlidingWindows d) e a some = sliding_unhidden e d some (sliding_widths a).0
every_unhidden Naf e a some = naf_unhidden e some
every_unhidden (WideNaf w) e a some = wide_unhidden e w some (wide_widths a).0
every_unhidden ModifiedNaf e a some = modified_unhidden e some

-- ---- the bits of the largest size, however large the number

pub every_largest : (m : Method) (e : ℕ) → Allowed m → 0 < e → largest_bits (steps_by m e) ≡ largest_bits_by m e
every_largest Binary e a some = binary_largest e some
every_largest (FixedWindows d) e a some = fixed_largest e d some (fixed_widths a).0
every_largest (SlidingWindows d) e a some = sliding_largest e d some (sliding_widths a).0
every_largest Naf e a some = naf_largest e some
every_largest (WideNaf w) e a some = wide_largest e w some (wide_widths a).0
every_largest ModifiedNaf e a some = modified_largest e some
