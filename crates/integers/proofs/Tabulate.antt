-- Laws of a table that a loop fills, one store a turn. Assumes nothing.
use mathlib.Core.Path.{◌≡◌, refl, sym, ◌∙◌}
use mathlib.Core.List.{List, [], ◌∷◌, ◌++◌, append_assoc, append-nil}
use Prim.Native.Nat.{ℕ, zero, suc, ◌+◌, ◌*◌, ◌^◌, ◌<◌, ◌≤◌}
use native.Mathlib.Decide.{dec_lt}
use native.Mathlib.Nat.{add-zero, add-suc, mul-zero}
use native.Mathlib.Numerals.{add-one}
use native.Mathlib.Omega.{arith}
use lib.ListN.{length, get_or, set, take, drop, length-append, get_or-append, get_or-eq_default}
use lib.Seq.{set_at, take_at, drop_at, get_or_at, drop-cons, drop-drop, ext_get_or}
use Rattle.integers.specs.Positional.{positional}
use Rattle.integers.specs.Tabulate.{tabulate}
use Rattle.integers.proofs.Positional.{Below, positional_append}
use Rattle.integers.proofs.Blocks.{place_one}

pub length_tabulate : (f : ℕ → ℕ) (n : ℕ) → length (tabulate f n) ≡ n
unfolding tabulate
length_tabulate f zero = refl
length_tabulate f (suc n) = rw length-append (omega (arith, length_tabulate f n))

-- a store of f n at n
pub tabulate_more : (f : ℕ → ℕ) (l : List ℕ) (n : ℕ) → n < length l → set (tabulate f n ++ drop n l) n (f n) ≡ tabulate f (n + 1) ++ drop (n + 1) l
unfolding tabulate
tabulate_more f l n h =
    rw (add-one, drop-cons l n 0, set_at (tabulate f n) (get_or l n 0) (drop (suc n) l) (f n) n (length_tabulate f n)) (sym (append_assoc (tabulate f n) (f n ∷ []) (drop (suc n) l)))

-- the same behind what stands below `at`
pub block_more : (f : ℕ → ℕ) (l : List ℕ) (at n : ℕ) → at + n < length l
    → set (take at l ++ (tabulate f n ++ drop (at + n) l)) (at + n) (f n) ≡ take at l ++ (tabulate f (n + 1) ++ drop (at + (n + 1)) l)
unfolding tabulate
block_more f l at n h = place_one l at n (tabulate f n) (length_tabulate f n) (f n) h ∙ rw add-one

pub tabulate_add : (f : ℕ → ℕ) (m n : ℕ) → tabulate f (m + n) ≡ tabulate f m ++ tabulate (λ j. f (m + j)) n
unfolding tabulate
tabulate_add f m zero = rw (add-zero, append-nil)
tabulate_add f m (suc n) = rw (add-suc, tabulate_add f m n) (simp append_assoc)

pub tabulate_same : (f g : ℕ → ℕ) (n : ℕ) → ((i : ℕ) → i < n → f i ≡ g i) → tabulate f n ≡ tabulate g n
unfolding tabulate
tabulate_same f g zero h = refl
tabulate_same f g (suc n) h = rw (tabulate_same f g n (λ i l. h i (omega arith)), h n (omega arith))

-- a block of n more entries above a table of m
pub tabulate_join : (f : ℕ → ℕ) (l : List ℕ) (m n : ℕ) → m ≤ length l
    → take m (tabulate f m ++ drop m l) ++ (tabulate (λ j. f (m + j)) n ++ drop (m + n) (tabulate f m ++ drop m l)) ≡ tabulate f (m + n) ++ drop (m + n) l
tabulate_join f l m n h =
    let t : take m (tabulate f m ++ drop m l) ≡ tabulate f m = take_at (tabulate f m) (drop m l) m (length_tabulate f m) in
    let d : drop (m + n) (tabulate f m ++ drop m l) ≡ drop (m + n) l =
    rw (← drop-drop n m (tabulate f m ++ drop m l), drop_at (tabulate f m) (drop m l) m (length_tabulate f m), drop-drop n m l) in
    rw (t, d, tabulate_add f m n) (simp append_assoc)

pub get_d_tabulate : (f : ℕ → ℕ) (n i : ℕ) → i < n → get_or (tabulate f n) i 0 ≡ f i
unfolding tabulate
get_d_tabulate f zero i h = absurd (omega arith)
get_d_tabulate f (suc n) i h = go (dec_lt i n) (λ l. get_d_tabulate f n i l)
  where
    go : Dec (i < n) → (i < n → get_or (tabulate f n) i 0 ≡ f i) → get_or (tabulate f n ++ (f n ∷ [])) i 0 ≡ f i
    go (yes l) below = get_or-append (tabulate f n) (f n ∷ []) 0 i (rw length_tabulate l) ∙ below l
    go (no l) below = let e : i ≡ n = omega arith in rw e (get_or_at (tabulate f n) (f n) [] 0 n (length_tabulate f n))

-- below a base, where all that it holds is
pub below_tabulate : (base : ℕ) (f : ℕ → ℕ) (n : ℕ) → ((i : ℕ) → f i < base) → Below base (tabulate f n)
below_tabulate base f n h i =
    elim (dec_lt i n) [
      | yes l ↦ rw (get_d_tabulate f n i l) (h i)
      | no l ↦ rw (get_or-eq_default (tabulate f n) 0 {n = i} (omega (arith, length_tabulate f n))) (omega (arith, h 0))
    ]

-- a list is the table of its elements
pub tabulate_of : (f : ℕ → ℕ) (l : List ℕ) → ((i : ℕ) → i < length l → get_or l i 0 ≡ f i) → l ≡ tabulate f (length l)
tabulate_of f l h =
    ext_get_or 0 l (tabulate f (length l)) (sym (length_tabulate f (length l))) (λ i p. h i p ∙ sym (get_d_tabulate f (length l) i p))

-- the value of one entry more
pub positional_tabulate : (b : ℕ) (f : ℕ → ℕ) (n : ℕ) → positional b (tabulate f (suc n)) ≡ positional b (tabulate f n) + b ^ n * f n
unfolding positional tabulate
positional_tabulate b f n = rw (positional_append b (tabulate f n) (f n ∷ []), length_tabulate f n, mul-zero, add-zero)
