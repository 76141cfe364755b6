-- `method_sliding_windows::next_window` meets its contract. Assumes nothing.
use Rattle.integers.specs.Positional.{words_value}
use Rattle.method_sliding_windows.proofs.Scan.{next_zeros, next_window}
use borrow.Author.Rules.{rules}
use Rattle.method_sliding_windows.proofs.next_window.Goals as goal

pub returns-then-bits-lt-WINDOW_VALUES : goal.returns-then-bits-lt-WINDOW_VALUES
returns-then-bits-lt-WINDOW_VALUES c =
    let args = c.args in
    next_zeros (words_value args.words.now) args.width (search rules) (search rules) args.place (search rules) c.bits_down-bits.result c.bits_down-bits.ensures c.min.result (search rules) (search rules) (search rules) (search rules)

pub returns : goal.returns
returns c =
    let args = c.args in
    rw c.window_in-window.ensures
    (next_window (words_value args.words.now) args.width (search rules) (search rules) args.place (search rules) c.bits_down-bits.result c.bits_down-bits.ensures (search rules))
