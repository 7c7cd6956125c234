use Rattle.std.proofs.Common.{◌∙◌, sym, ap, length}
use Rattle.std.proofs.lemmas.Bool.{eqb-true, eqb-false}
use Rattle.ca_reach.specs.Reach.{row, rows_of}
use Rattle.ca_callers.proofs.InRuns.{stops_there, starts_there, none_back, run_there}
use Rattle.ca_callers.proofs.callers.Callers.before_in_run.Goals as goal

pub returns-then-not-is_empty : goal.returns-then-not-is_empty
returns-then-not-is_empty c =
    stops_there c.args.self.now c.self.inside.code.value.source (sym c.self.view_is) c.self.inside.tables c.self.invariant c.args.item c.row.result.now (c.row.ensures ∙ ap (λ rs. row (rows_of rs) c.args.item.0) c.deref.ensures.value)
    (eqb-false (length c.row.result.now) 0 (sym c.is_empty.ensures ∙ c.if-not-is_empty.true))

pub returns-then-not-is_empty-2 : goal.returns-then-not-is_empty-2
returns-then-not-is_empty-2 c =
    starts_there c.args.self.now c.self.inside.code.value.source (sym c.self.view_is) c.self.inside.tables c.self.invariant c.args.item c.row-2.result.now (c.row-2.ensures ∙ ap (λ rs. row (rows_of rs) c.args.item.0) c.deref-2.ensures.value)
    (eqb-false (length c.row-2.result.now) 0 (sym c.is_empty-2.ensures ∙ c.if-not-is_empty-2.true))

pub returns-in_default : goal.returns-in_default
returns-in_default c =
    none_back c.args.self.now c.self.inside.code.value.source (sym c.self.view_is) c.self.inside.tables c.self.invariant c.args.item c.row-3.result.now (c.row-3.ensures ∙ ap (λ rs. row (rows_of rs) c.args.item.0) c.deref-3.ensures.value) c.in_default.ensures

pub returns : goal.returns
returns c =
    run_there c.args.self.now c.self.inside.code.value.source (sym c.self.view_is) c.self.inside.tables c.self.invariant c.args.item c.row.result.now c.row-2.result.now c.row-3.result.now
    (c.row.ensures ∙ ap (λ rs. row (rows_of rs) c.args.item.0) c.deref.ensures.value) (c.row-2.ensures ∙ ap (λ rs. row (rows_of rs) c.args.item.0) c.deref-2.ensures.value) (c.row-3.ensures ∙ ap (λ rs. row (rows_of rs) c.args.item.0) c.deref-3.ensures.value)
    (eqb-true (length c.row.result.now) 0 (sym c.is_empty.ensures ∙ c.if-not-is_empty.false)) (eqb-true (length c.row-2.result.now) 0 (sym c.is_empty-2.ensures ∙ c.if-not-is_empty-2.false))
    (record { 0 = c.in-Some.number }) c.in-Some.ensures
