use Rattle.std.proofs.Common.{◌≡◌, ◌++◌, take, flat_map}
use Rattle.verdict_report.specs.PassesText.{window_text}
use Rattle.verdict_report.proofs.passes.append_windows.Given as goal

abbrev pub invariant-windows : goal.invariant-windows
invariant-windows l = l.out.items ≡ l.fn.out.items ++ flat_map (window_text l.ops) (take l.window-index l.windows)
