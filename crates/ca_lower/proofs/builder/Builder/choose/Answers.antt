use Rattle.std.proofs.Common.{ap, sym, ◌∙◌, arith}
use Rattle.ca_model.specs.Sites.{act_sites}
use Rattle.ca_lower.proofs.ActsAdded.{cond_added}
use Rattle.ca_lower.proofs.builder.Builder.choose.Goals as goal

pub returns-in_ok-start-in-Cond-clause-adds : goal.returns-in_ok-start-in-Cond-clause-adds
returns-in_ok-start-in-Cond-clause-adds c g width le stands =
    cond_added _ g _ width _ (omega (arith, c.locals-low.ensures)) _ _ _ _ _ _ (sym c.act.ensures ∙ c.in-Cond.is) (omega (arith, c.behind-self.ensures, c.in_ok-start-in-Cond.ensures.site, ap act_sites (sym c.act.ensures ∙ c.in-Cond.is))) (c.in_ok-start-in-Cond.ensures.adds g width le stands)
