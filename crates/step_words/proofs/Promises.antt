-- What is promised of a word: add(J,K) and subtract(J,K) are these steps, and any other word is no step. Assumes nothing.
use mathlib.Core.Path.{◌≡◌, refl, sym, ap, ◌∙◌}
use mathlib.Core.Logic.{◌⊎◌, inl, inr}
use mathlib.Core.Bool.{Bool, true, false, cond}
use mathlib.Core.List.{List, [], ◌∷◌, ◌++◌}
use Prim.Native.Nat.{ℕ, suc, ◌+◌, ◌<◌}
use native.Mathlib.Numerals.{add-one}
use native.Mathlib.Omega.{arith}
use borrow.Author.Tests.{eqb-true, eqb-false}
use lib.Dec.{eqb}
use lib.ListN.{length, take, drop, length-append, drop_of_length-le}
use lib.Seq.{take_at, drop_at, get_or_at, drop-drop, split_at, length-take-le}
use Rattle.integers.specs.Positional.{low_bytes}
use Rattle.chains.specs.Sound.{WellFormed}
use Rattle.chains.specs.Steps.{adding, subtracting, add, subtract, step_bytes_of}
use Rattle.decimal.specs.Decimal.{is_digit, leading, decimal_value}
use Rattle.step_words.specs.Word.{no_step, position_limit, position_digits, step_in, begins, add_name, subtract_name, word_step}
use Rattle.step_words.proofs.Positions.{Found, digits_end, leading_taken, position_ends, position_is, position_within}
use Rattle.step_words.proofs.Outcomes.{no_first, no_second, not_closed, is_step}
use Rattle.step_words.proofs.Names.{begins_is}

-- ---- the words that people write

-- a position in plain decimal
pub record IsPosition (digits : List ℕ) : Type 0 where
  pub all : leading digits ≡ length digits
  pub some : 0 < length digits
  pub small : decimal_value digits < position_limit

-- J, a comma, K, a closing bracket
abbrev pub pair : List ℕ → List ℕ → List ℕ
pair J K = J ++ (44 ∷ (K ++ (41 ∷ [])))

read_position : (digits : List ℕ) (end : ℕ) (rest : List ℕ) → IsPosition digits → is_digit end ≡ false → length digits ≡ position_digits (digits ++ (end ∷ rest)) end
read_position digits end rest p f =
    position_ends (digits ++ (end ∷ rest)) end (length digits) (digits_end digits end rest p.all f) (get_or_at digits end rest 0 (length digits) refl)
    (rw (take_at digits (end ∷ rest) (length digits) refl) p.small)

module _ (J K : List ℕ) (j : IsPosition J) (k : IsPosition K) where
  read_pair : (operation : ℕ) → step_in operation (pair J K) ≡ record { operation = operation; first = decimal_value J; second = decimal_value K }
  unfolding is_digit
  read_pair operation =
      let rest : List ℕ = K ++ (41 ∷ []) in
      let behind : rest ≡ drop (length J + 1) (pair J K) =
      sym (ap (drop 1) (drop_at J (44 ∷ rest) (length J) refl)) ∙ drop-drop 1 (length J) (pair J K) in
      sym
      (is_step operation (pair J K) (read_position J 44 rest j refl) (λ z. omega (arith, j.some)) behind (read_position K 41 [] k refl) (λ z. omega (arith, k.some)) (length-append K (41 ∷ []))
      (ap decimal_value (sym (take_at J (44 ∷ rest) (length J) refl)))
      (ap decimal_value (sym (take_at K (41 ∷ []) (length K) refl))))

  pub add_word : word_step (add_name ++ pair J K) ≡ add (decimal_value J) (decimal_value K)
  unfolding word_step begins
  add_word = read_pair adding

  pub subtract_word : word_step (subtract_name ++ pair J K) ≡ subtract (decimal_value J) (decimal_value K)
  unfolding word_step begins
  subtract_word = read_pair subtracting

  -- and their bytes
  pub add_bytes : step_bytes_of (word_step (add_name ++ pair J K)) ≡ 0 ∷ (low_bytes 2 (decimal_value J) ++ low_bytes 2 (decimal_value K))
  unfolding step_bytes_of low_bytes
  add_bytes = rw add_word

  pub subtract_bytes : step_bytes_of (word_step (subtract_name ++ pair J K)) ≡ 1 ∷ (low_bytes 2 (decimal_value J) ++ low_bytes 2 (decimal_value K))
  unfolding step_bytes_of low_bytes
  subtract_bytes = rw subtract_word

-- ---- and no others

-- a word that is a name, two positions, and nothing else
pub record Spelled (name word : List ℕ) : Type 0 where
  pub J : List ℕ
  pub K : List ℕ
  pub first : IsPosition J
  pub second : IsPosition K
  pub is : word ≡ name ++ pair J K

module _ (text : List ℕ) (end : ℕ) (some : 0 < end) (n : position_digits text end ≡ 0 → ⊥) where
  abbrev count : ℕ
  count = position_digits text end

  taken : IsPosition (take count text)
  taken =
      let p : Found text end count = position_is text end n in
      let size : length (take count text) ≡ count = length-take-le count text (omega (arith, position_within text end some n)) in
      record { all = rw (← p.digits) (leading_taken text) ∙ sym size; some = omega arith; small = p.small }

  split : text ≡ take count text ++ (end ∷ drop (count + 1) text)
  split =
      let p : Found text end count = position_is text end n in
      rw add-one
      (split_at text count 0 (omega (arith, position_within text end some n)) ∙ ap (λ (c : ℕ). take count text ++ (c ∷ drop (suc count) text)) p.behind)

only_pairs : (operation : ℕ) (text : List ℕ) → Spelled [] text ⊎ step_in operation text ≡ no_step
only_pairs operation text = go_first (eqb j 0) refl
  where
    j : ℕ
    j = position_digits text 44

    rest : List ℕ
    rest = drop (j + 1) text

    k : ℕ
    k = position_digits rest 41

    go_length : (j ≡ 0 → ⊥) → (k ≡ 0 → ⊥) → (b : Bool) → eqb (length rest) (k + 1) ≡ b → Spelled [] text ⊎ step_in operation text ≡ no_step
    go_length f s true e =
        let end : drop (k + 1) rest ≡ [] = drop_of_length-le rest {i = k + 1} (omega (arith, eqb-true (length rest) (k + 1) e)) in
        inl record {
          J = take j text;
          K = take k rest;
          first = taken text 44 (omega arith) f;
          second = taken rest 41 (omega arith) s;
          is = split text 44 (omega arith) f ∙ ap (λ (l : List ℕ). take j text ++ (44 ∷ l)) (split rest 41 (omega arith) s ∙ rw end);
        }
    go_length f s false e = inr (sym (not_closed operation text refl f refl refl s (eqb-false (length rest) (k + 1) e)))

    go_second : (j ≡ 0 → ⊥) → (b : Bool) → eqb k 0 ≡ b → Spelled [] text ⊎ step_in operation text ≡ no_step
    go_second f true e = inr (sym (no_second operation text refl f refl refl (eqb-true k 0 e)))
    go_second f false e = go_length f (eqb-false k 0 e) (eqb (length rest) (k + 1)) refl

    go_first : (b : Bool) → eqb j 0 ≡ b → Spelled [] text ⊎ step_in operation text ≡ no_step
    go_first true e = inr (sym (no_first operation text refl (eqb-true j 0 e)))
    go_first false e = go_second (eqb-false j 0 e) (eqb k 0) refl

-- every word is add(J,K), or subtract(J,K), or no step
pub only_words : (word : List ℕ) → Spelled add_name word ⊎ Spelled subtract_name word ⊎ word_step word ≡ no_step
unfolding word_step
only_words word = go (begins add_name word) (begins subtract_name word) refl refl
  where
    named : (name : List ℕ) (operation : ℕ) → begins name word ≡ true → Spelled name word ⊎ step_in operation (drop (length name) word) ≡ no_step
    named name operation e = behind (only_pairs operation (drop (length name) word))
      where
        behind : Spelled [] (drop (length name) word) ⊎ step_in operation (drop (length name) word) ≡ no_step
            → Spelled name word ⊎ step_in operation (drop (length name) word) ≡ no_step
        behind (inl p) = inl record { J = p.J; K = p.K; first = p.first; second = p.second; is = begins_is name word e ∙ ap (λ (l : List ℕ). name ++ l) p.is }
        behind (inr e) = inr e

    go : (a s : Bool) → begins add_name word ≡ a → begins subtract_name word ≡ s
        → Spelled add_name word ⊎ Spelled subtract_name word
        ⊎ cond a (step_in adding (drop (length add_name) word)) (cond s (step_in subtracting (drop (length subtract_name) word)) no_step) ≡ no_step
    go true s e f = elim (named add_name adding e) [ inl p ↦ inl p | inr n ↦ inr (inr n) ]
    go false true e f = inr (named subtract_name subtracting f)
    go false false e f = inr (inr refl)

-- what is no step is refused by check, wherever it stands
pub no_step_malformed : (i : ℕ) → WellFormed i no_step → ⊥
no_step_malformed i w = omega (arith, w.operation)

-- and its bytes
pub no_step_bytes : step_bytes_of no_step ≡ 2 ∷ 0 ∷ 0 ∷ 0 ∷ 0 ∷ []
unfolding step_bytes_of
no_step_bytes = refl
