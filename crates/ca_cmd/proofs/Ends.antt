-- How a call ends: a cause is answered, or its answer is cut short.
use Rattle.std.proofs.Common.{◌≡◌, ◌<◌, ℕ, List, [], Option, Err, sym, subst, refl, inl, inr, arith, append-nil, ◌∙◌}
use Rattle.std.specs.Prelude.{◌⊎◌, ◌≢◌, Ok}
use Rattle.ca_model.specs.Reports.{ending_status}
use Rattle.ca_model.specs.declared.values.Ending.{Ending}
use Rattle.ca_model.specs.declared.values.Ending.TheVariants as ending
use Rattle.ca_commands.specs.Words.{Command, Means}
use Rattle.ca_cmd.specs.Commands.{Cause, Misworded, Refused, Ran, Traced, Tabled, refusal_status, status, out_text, memory_text}
use Rattle.ca_cmd.specs.declared.refusals.SourceFault.TheVariants as source_fault
use Rattle.ca_cmd.specs.declared.refusals.TraceFault.TheVariants as trace_fault
use Rattle.ca_cmd.specs.declared.refusals.Refusal.{Refusal}
use Rattle.ca_cmd.specs.declared.refusals.Refusal.TheVariants as refusal
use Rattle.ca_io.specs.Ports.{PutPort, LoadPort, put_port, Wrote, WrotePart, HasFailed}
use Rattle.ca_io.proofs.Puts.{appends_nothing, part_whole}
use Rattle.ca_cmd.specs.declared.refusals.ServeNo.{ServeNo}
use Rattle.ca_cmd.specs.declared.refusals.ServeNo.TheVariants as serve_no
use Rattle.ca_cmd.specs.Serving.{AskPort, ask_port, Asked, Arises, Answers, IsCut, Closes, Tells, Serves}

-- a cause is answered; or a put failed, or memory ran out
abbrev pub Ends : List (List ℕ) → LoadPort → AskPort → PutPort → PutPort → ℕ → Type 0
Ends words files asks out err result =
    ((cause : Cause) × Answers words files asks out err cause result)
    ⊎ (((result ≡ 7) × (HasFailed out ⊎ HasFailed err) × IsCut words files asks out err)
    ⊎ ((result ≡ 8) × IsCut words files asks out err))

pub wrote_nothing : {S : Type 0} (written : S → Option (List ℕ)) (faults : S → ℕ) (old new : S) → new ≡ old → Wrote (put_port written faults old new) []
wrote_nothing written faults old new same = subst (λ (s : _). Wrote (put_port written faults old s) []) (sym same) (record { whole = appends_nothing (written old); passed = refl })

pub asked_nothing : {F : Type 0} (asked : F → List (List ℕ)) (old new : F) → asked new ≡ asked old → Asked (ask_port asked old new) []
asked_nothing asked old new same = same ∙ sym (append-nil (asked old))

part_of : (p : PutPort) (text : List ℕ) → Wrote p text → WrotePart p text
part_of p text w = part_whole p.old p.new text w.whole

-- no cause has a status of what is cut short
abbrev IsApart : ℕ → Type 0
IsApart n = (n < 7) ⊎ (8 < n)

apart_ending : (end : Ending) → IsApart (ending_status end)
apart_ending ending.Finished = inl (omega arith)
apart_ending (ending.Fault k) = inl (omega arith)
apart_ending ending.Deadlock = inl (omega arith)
apart_ending ending.Unended = inl (omega arith)
apart_ending ending.Events = inl (omega arith)
apart_ending ending.Frames = inl (omega arith)

apart_refusal : (r : Refusal) → IsApart (refusal_status r)
apart_refusal (refusal.Source source_fault.Unread) = inl (omega arith)
apart_refusal (refusal.Source source_fault.TooLong) = inl (omega arith)
apart_refusal (refusal.Source (source_fault.NoTokens f)) = inl (omega arith)
apart_refusal (refusal.Source (source_fault.NoProgram f)) = inl (omega arith)
apart_refusal (refusal.Source (source_fault.Untyped f)) = inl (omega arith)
apart_refusal (refusal.NoSuchSite n) = inl (omega arith)
apart_refusal (refusal.Trace trace_fault.Unread) = inl (omega arith)
apart_refusal (refusal.Trace trace_fault.TooLong) = inr (omega arith)
apart_refusal (refusal.Trace (trace_fault.NoLine line)) = inr (omega arith)
apart_refusal (refusal.Trace (trace_fault.NoStep index)) = inr (omega arith)
apart_refusal (refusal.Trace (trace_fault.Fault index)) = inr (omega arith)

apart : (cause : Cause) → IsApart (status cause)
apart Misworded = inl (omega arith)
apart (Refused c r) = apart_refusal r
apart (Ran o x plan events last end) = apart_ending end
apart (Traced c x plan events text) = inl (omega arith)
apart (Tabled o x text) = inl (omega arith)

not_cut : (n : ℕ) → IsApart n → (n ≡ 7) ⊎ (n ≡ 8) → ⊥
not_cut n (inl less) (inl seven) = omega (arith, less, seven)
not_cut n (inl less) (inr eight) = omega (arith, less, eight)
not_cut n (inr more) (inl seven) = omega (arith, more, seven)
not_cut n (inr more) (inr eight) = omega (arith, more, eight)

-- what serving answers, by the case that it is
pub served_as : (words : List (List ℕ)) (files : LoadPort) (asks : AskPort) (out : PutPort) (c : Command) (answered known : ServeNo) → answered ≡ known → Serves words files asks out c (Err answered) → Serves words files asks out c (Err known)
served_as words files asks out c answered known is serves = subst (λ (n : ServeNo). Serves words files asks out c (Err n)) is serves

module _ (words : List (List ℕ)) (files : LoadPort) (asks : AskPort) (out err : PutPort) (result : ℕ) where
  -- a cause whose text is put to `err`, or that on want of memory
  pub ends_told : (cause : Cause) → Arises words files asks cause → Wrote out (out_text cause) → Tells cause result err → Ends words files asks out err result
  ends_told cause arises wrote (inl (inl told)) = inl (cause, record { arises = arises; is_status = told.0; on_out = wrote; on_err = told.1 })
  ends_told cause arises wrote (inl (inr (inl failed))) =
      inr (inl (failed.0, inr failed.2, inl (cause, record { arises = arises; on_out = part_of out (out_text cause) wrote; on_err = inl failed.1 })))
  ends_told cause arises wrote (inl (inr (inr starved))) = inr (inr (starved.0, inl (cause, record { arises = arises; on_out = part_of out (out_text cause) wrote; on_err = inl starved.1 })))
  ends_told cause arises wrote (inr (inl told)) =
      inr (inr (told.0, inl (cause, record { arises = arises; on_out = part_of out (out_text cause) wrote; on_err = inr (part_of err memory_text told.1) })))
  ends_told cause arises wrote (inr (inr (inl failed))) =
      inr (inl (failed.0, inr failed.2, inl (cause, record { arises = arises; on_out = part_of out (out_text cause) wrote; on_err = inr failed.1 })))
  ends_told cause arises wrote (inr (inr (inr starved))) = inr (inr (starved.0, inl (cause, record { arises = arises; on_out = part_of out (out_text cause) wrote; on_err = inr starved.1 })))

  module _ (c : Command) (said : Means words c) where
    -- what a command that is served ends with
    pub ends_served : Serves words files asks out c (Ok result) → Wrote err [] → Ends words files asks out err result
    ends_served (cause, arises, is, wrote, silent) nothing = inl (cause, record { arises = arises; is_status = is; on_out = wrote; on_err = subst (Wrote err) (sym silent) nothing })

    pub ends_failed : Serves words files asks out c (Err serve_no.Put) → result ≡ 7 → Wrote err [] → Ends words files asks out err result
    ends_failed (cause, arises, part, silent, failed) is nothing =
        inr (inl (is, inl failed, inl (cause, record { arises = arises; on_out = part; on_err = inl (subst (WrotePart err) (sym silent) (part_of err [] nothing)) })))

    short : Serves words files asks out c (Err serve_no.NoMemory) → WrotePart err memory_text → IsCut words files asks out err
    short (inl (cause, arises, part)) on_err = inl (cause, record { arises = arises; on_out = part; on_err = inr on_err })
    short (inr (asked, wrote)) on_err = inr (record { asked = inr (record { command = c; said = said; asked = asked }); on_out = wrote; on_err = on_err })

    pub ends_starved : Serves words files asks out c (Err serve_no.NoMemory) → Closes 8 memory_text result err → Ends words files asks out err result
    ends_starved serves (inl told) = inr (inr (told.0, short serves (part_of err memory_text told.1)))
    ends_starved serves (inr (inl failed)) = inr (inl (failed.0, inr failed.2, short serves failed.1))
    ends_starved serves (inr (inr starved)) = inr (inr (starved.0, short serves starved.1))

  -- memory that ran out before the words were known
  pub ends_unread : Asked asks [] → Wrote out [] → Closes 8 memory_text result err → Ends words files asks out err result
  ends_unread asked wrote closes = told closes
    where
      unread : WrotePart err memory_text → IsCut words files asks out err
      unread on_err = inr (record { asked = inl asked; on_out = wrote; on_err = on_err })

      told : Closes 8 memory_text result err → Ends words files asks out err result
      told (inl whole) = inr (inr (whole.0, unread (part_of err memory_text whole.1)))
      told (inr (inl failed)) = inr (inl (failed.0, inr failed.2, unread failed.1))
      told (inr (inr starved)) = inr (inr (starved.0, unread starved.1))

  -- the clauses
  pub answered_at : Ends words files asks out err result → result ≢ 7 → result ≢ 8 → (cause : Cause) × Answers words files asks out err cause result
  answered_at (inl answers) no_seven no_eight = answers
  answered_at (inr (inl (is, failed, cut))) no_seven no_eight = absurd (no_seven is)
  answered_at (inr (inr (is, cut))) no_seven no_eight = absurd (no_eight is)

  known_whole : (cause : Cause) → Answers words files asks out err cause result → (result ≡ 7) ⊎ (result ≡ 8) → ⊥
  known_whole cause answers = not_cut result (subst IsApart (sym answers.is_status) (apart cause))

  pub cut_at : Ends words files asks out err result → (result ≡ 7) ⊎ (result ≡ 8) → IsCut words files asks out err
  cut_at (inl (cause, answers)) which = absurd (known_whole cause answers which)
  cut_at (inr (inl (is, failed, cut))) which = cut
  cut_at (inr (inr (is, cut))) which = cut

  pub failed_at : Ends words files asks out err result → result ≡ 7 → HasFailed out ⊎ HasFailed err
  failed_at (inl (cause, answers)) seven = absurd (known_whole cause answers (inl seven))
  failed_at (inr (inl (is, failed, cut))) seven = failed
  failed_at (inr (inr (is, cut))) seven = absurd (omega (arith, is, seven))
