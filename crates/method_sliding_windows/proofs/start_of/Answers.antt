-- `method_sliding_windows::start_of` meets its contract. Assumes nothing.
use mathlib.Core.Path.{◌≡◌, ap, ◌∙◌}
use Prim.Native.Nat.{ℕ, ◌+◌, ◌-◌, ◌<◌}
use native.Mathlib.Numerals.{add-one}
use native.Mathlib.Omega.{arith}
use Rattle.integers.specs.Bits.{bit_length}
use Rattle.integers.specs.Positional.{words_value}
use Rattle.methods.proofs.SlidingWindows.{first_window}
use Rattle.method_sliding_windows.specs.Scan.{window_at, bits_down, first_in, table_steps, start_of}
use Rattle.method_sliding_windows.proofs.Bits.{start_large, start_window}
use borrow.Author.Rules.{rules}
use Rattle.method_sliding_windows.proofs.start_of.Goals.{After-bits_down, After-window_in-window}
use Rattle.method_sliding_windows.proofs.start_of.Goals as goal

-- the bits from the top bit down
bits : (c : After-bits_down) → c.bits_down.result ≡ bits_down (words_value c.args.words.now) (bit_length (words_value c.args.words.now) - 1)
bits c = c.bits_down.ensures ∙ ap (λ (n : ℕ). bits_down (words_value c.args.words.now) n) c.requires.n_value

module _ (c : After-window_in-window) where
  abbrev e : ℕ
  e = words_value c.args.words.now

  abbrev d : ℕ
  d = c.args.width

  some : 0 < e
  some = search rules

  window : c.window_in-window.result ≡ window_at e (bit_length e - 1) d
  window = c.window_in-window.ensures ∙ ap (λ (x : ℕ). first_in x d) (bits (goal.at.After-window_in-window c).After-bits_down) ∙ start_window e d some (search rules) (search rules)

  within : c.window_in-window.result.bits < bit_length e - 1 + 2
  within = rw window (omega (arith, (first_window e d some (search rules)).within))

pub window_in-window-requires : goal.window_in-window-requires
window_in-window-requires c =
    rw (bits (goal.at.window_in-window-requires c).After-bits_down) (start_large (words_value c.args.words.now) c.args.width (search rules) (search rules) (search rules))

pub overflow_sub-below : goal.overflow_sub-below
overflow_sub-below c = omega (arith, within (goal.at.overflow_sub-below c).After-window_in-window)

pub returns : goal.returns
unfolding start_of
returns c =
    let args = c.args in
    let n : ℕ = bit_length (words_value args.words.now) - 1 in
    let top : args.n ≡ n = search rules in
    let table : c.table_steps.result ≡ table_steps (args.n + 1 - c.window_in-window.result.bits) c.position-at.result args.width = c.table_steps.ensures in
    rw (table, top, add-one n, c.position-at.ensures, window (goal.at.returns c).After-window_in-window)
