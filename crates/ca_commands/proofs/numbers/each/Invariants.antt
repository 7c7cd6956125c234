use Rattle.std.proofs.Common.{◌≡◌, ◌≤◌, take, map}
use Rattle.std.specs.Prelude.{All}
use Rattle.std.specs.Fmt.{decimal}
use Rattle.ca_commands.proofs.numbers.each.Given as goal

abbrev pub invariant-parts : goal.invariant-parts
invariant-parts l = record {
  found : map (λ p. p.now) (take l.part-index l.parts) ≡ map decimal l.numbers.items;
  small : All (λ n. n ≤ l.fn.most) l.numbers.items;
}
