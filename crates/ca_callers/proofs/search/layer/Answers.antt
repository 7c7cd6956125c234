use Rattle.std.proofs.Common.{ℕ, refl, ◌∙◌}
use Rattle.ca_reach.specs.Reach.{rows_of}
use Rattle.ca_callers.specs.Callers.{IsReached, IsClosed, InOneRow}
use Rattle.ca_callers.proofs.Listing.{reached_read, rows_read, calls_read, closed_exact, sets_read, sets_twice}
use Rattle.ca_callers.proofs.search.layer.Goals as goal

pub returns : goal.returns
returns c =
    let t = c.args.tables.now in
    let above = rows_of t.above.items in
    let items = c.in_ok-items.items.items in
    let Here : ℕ → Type 0 = IsReached t c.args.starts.now in
    let exact = reached_read t.back.items c.deref.result.now c.args.starts.now items c.deref.ensures.value c.in_ok-items.ensures in
    let passed = rows_read (rows_of t.back.items) items Here exact c.requires.back t.back.items c.deref-2.result.now c.deref-3.result.now c.in_ok-passed.passed.items refl c.deref-2.ensures.value c.deref-3.ensures.value c.in_ok-passed.ensures in
    let stops = rows_read (rows_of t.stops.items) items Here exact c.requires.stops t.stops.items c.deref-5.result.now c.deref-6.result.now c.in_ok-stops.stops.items refl c.deref-5.ensures.value c.deref-6.ensures.value c.in_ok-stops.ensures in
    let ends = closed_exact above c.args.last items c.deref-9.result.now c.in_ok-ends.ends.items Here c.deref-8.result.now t.above.items exact refl c.deref-8.ensures.value c.deref-9.ensures.value c.in_ok-ends.ensures in
    let entries = rows_read (rows_of t.begun.items) c.in_ok-ends.ends.items (λ n. Here n × IsClosed above c.args.last n) ends c.requires.begun t.begun.items c.deref-10.result.now c.deref-11.result.now c.in_ok-entries.entries.items refl c.deref-10.ensures.value c.deref-11.ensures.value c.in_ok-entries.ensures in
    let calls = calls_read above items Here exact c.requires.above c.args.last t.above.items c.deref-13.result.now c.deref-14.result.now c.in_ok-calls.calls.items refl c.deref-13.ensures.value c.deref-14.ensures.value c.in_ok-calls.ensures in
    record {
      next_are = calls;
      before = sets_twice c.args.marks.now.before.items c.put_all.new.flags.items c.put_all-4.new.flags.items (InOneRow (rows_of t.back.items) Here) _ c.put_all.ensures.length
          (sets_read c.args.marks.now.before.items c.put_all.new.flags.items c.in_ok-passed.passed.items c.deref-4.result.now (InOneRow (rows_of t.back.items) Here) c.deref-4.ensures.value passed c.put_all.ensures.sets)
          (sets_read c.put_all.new.flags.items c.put_all-4.new.flags.items c.in_ok-calls.calls.items c.deref-15.result.now _ c.deref-15.ensures.value calls c.put_all-4.ensures.sets);
      after = sets_read c.args.marks.now.after.items c.put_all-2.new.flags.items c.in_ok-stops.stops.items c.deref-7.result.now _ c.deref-7.ensures.value stops c.put_all-2.ensures.sets;
      entries = sets_read c.args.marks.now.entries.items c.put_all-3.new.flags.items c.in_ok-entries.entries.items c.deref-12.result.now _ c.deref-12.ensures.value entries c.put_all-3.ensures.sets;
      before_length = c.put_all-4.ensures.length ∙ c.put_all.ensures.length;
      after_length = c.put_all-2.ensures.length;
      entries_length = c.put_all-3.ensures.length;
    }
