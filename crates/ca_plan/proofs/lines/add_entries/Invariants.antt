use Rattle.std.proofs.Common.{◌≡◌, ◌++◌, [], take, get_or}
use Rattle.std.specs.List.{flat_map}
use Rattle.ca_plan.specs.SiteTables.{entry_text}
use Rattle.ca_plan.proofs.lines.add_entries.Given as goal

abbrev pub invariant-entries : goal.invariant-entries
invariant-entries l = l.words.items ≡ l.fn.words.items ++ flat_map (λ f. entry_text (get_or l.names f.0 [])) (take l.f-index l.fn.entries)
