-- A command whose text is made is served by putting the text; where it isn't made, as the refusal says.
use Rattle.std.proofs.Common.{◌≡◌, ℕ, List, [], Err, sym, ap, subst, inl, inr, ◌∙◌}
use Rattle.std.specs.Prelude.{Ok}
use Rattle.ca_model.specs.declared.plan.Plan.{Plan}
use Rattle.ca_model.specs.declared.values.Event.{Event}
use Rattle.ca_model.specs.Codes.{Typed}
use Rattle.ca_model.specs.Projection.{projection}
use Rattle.ca_check.specs.Projections.{IsRun, IsProjection}
use Rattle.ca_commands.specs.Words.{TraceOptions, Command, Project}
use Rattle.ca_io.specs.Ports.{PutPort, LoadPort, Wrote, WrotePart, HasFailed}
use Rattle.ca_cmd.specs.declared.refusals.ServeNo.{ServeNo}
use Rattle.ca_cmd.specs.declared.refusals.ServeNo.TheVariants as serve_no
use Rattle.ca_cmd.specs.Traced.{events_text, IsMade}
use Rattle.ca_cmd.specs.Serving.{AskPort, Stops, IsToPut, Serves}

module _ (words : List (List ℕ)) (files : LoadPort) (asks : AskPort) (out : PutPort) (c : Command) where
  pub stopped : Wrote out [] → (why : ServeNo) → Stops words files asks c why → Serves words files asks out c (Err why)
  stopped nothing (serve_no.Refused r) arises = (arises, nothing)
  stopped nothing serve_no.Put never = absurd never
  stopped nothing serve_no.NoMemory some = inr (some, nothing)

  module _ (text : List ℕ) (made : IsToPut words files asks text) where
    pub put_whole : Wrote out text → Serves words files asks out c (Ok 0)
    put_whole wrote = (made.cause, made.arises, sym made.is_status, subst (Wrote out) (sym made.is_text) wrote, made.silent)

    pub put_failed : WrotePart out text → HasFailed out → Serves words files asks out c (Err serve_no.Put)
    put_failed part failed = (made.cause, made.arises, subst (WrotePart out) (sym made.is_text) part, made.silent, failed)

    pub put_starved : WrotePart out text → Serves words files asks out c (Err serve_no.NoMemory)
    put_starved part = inl (made.cause, made.arises, subst (WrotePart out) (sym made.is_text) part)

-- the text of a projection
pub projected_so : (p : Typed) (plan : Plan) (events taken list found : List Event) (text : List ℕ) → taken ≡ events → IsProjection p plan taken (Ok list) → found ≡ list → text ≡ events_text found → (o : TraceOptions) → IsMade (Project o) p plan events text
projected_so p plan events taken list found text same (run, is) listed written o = (subst (IsRun p plan) same run, written ∙ ap events_text (listed ∙ (is ∙ ap projection same)))
