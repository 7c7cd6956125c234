use Rattle.std.proofs.Common.{◌≡◌, ◌∷◌}
use Rattle.std.proofs.lemmas.Result.{IfOk-weaker}
use Rattle.ca_lex.specs.Strings.{StringAt, UnitsGive}
use Rattle.ca_lex.proofs.ClosedStrings.{string_is, first_quote}
use Rattle.ca_lex.proofs.strings.string.Goals as goal

pub returns : goal.returns
returns c =
    let whole : c.args.text.now ≡ 34 ∷ c.in-Some.more.now = first_quote c.args.text.now c.in-Some.more.now c.in-Some.field-0-0.now c.in-Some.ensures.cases.0 c.requires in
    IfOk-weaker c.unescaped.result (λ q. UnitsGive c.split_at.result.0.now q) (λ q. StringAt c.args.text.now q) (string_is c.args.text.now c.in-Some.more.now c.split_at.result.0.now c.in-Some-units_len.len whole c.in-Some-units_len.ensures c.split_at.ensures.front) c.unescaped.ensures
