use Rattle.std.proofs.Common.{[], ◌∷◌, ◌++◌, ap, ◌∙◌, arith}
use Rattle.ca_tree.specs.declared.numbers.ItemId.{ItemId}
use Rattle.ca_lower.proofs.Growing.{pushed}
use Rattle.ca_lower.proofs.builder.Builder.push.Goals as goal

pub returns-clause-grows : goal.returns-clause-grows
returns-clause-grows c =
    pushed c.args.at.now c.args.self.now (record { steps = c.push.new.self; registers = c.max-self.result; site = c.args.self.now.site }) c.args.instr c.args.links
    (c.in_ok-push.ensures.items ∙ ap (λ (i : ItemId). c.args.self.now.steps.items ++ record { node = record { item = i; instr = c.args.instr }; links = c.args.links } ∷ []) c.id-item.ensures.value)
    c.requires.links (omega (arith, c.max-self.ensures)) (λ n. omega (arith, n, c.max-self.ensures, c.requires.top)) c.id-item.ensures.known c.requires.marks
