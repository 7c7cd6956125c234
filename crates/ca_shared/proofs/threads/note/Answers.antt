use Rattle.std.proofs.Common.{◌≡◌, refl, Some, length, arith, ap}
use Rattle.std.specs.Prelude.{slice_get}
use Rattle.std.proofs.lemmas.Option.{slice_get_read}
use Rattle.ca_shared.specs.declared.threads.Progress.{Progress}
use Rattle.ca_shared.specs.Kept.{most, noted, noted_at}
use Rattle.ca_shared.proofs.Noting.{noted_is, noted_sum, now_below, one_deeper}
use Rattle.ca_shared.proofs.threads.note.Goals as goal

pub overflow_add-frames : goal.overflow_add-frames
overflow_add-frames c =
    let counted = c.requires.counted in
    let fits = c.requires.fits in
    let below = now_below c.args.threads.now.items in
    let is = c.made.ensures in
    omega (arith, counted, fits, below, is)

pub returns-clause-threads : goal.returns-clause-threads
returns-clause-threads c = noted_is c.args.threads.now.items c.args.t c.args.act.now c.args.place c.index-thread.result.now c.deeper-depth.result c.requires.there c.index-thread.ensures c.deeper-depth.ensures

pub overflow_add-frames-2 : goal.overflow_add-frames-2
overflow_add-frames-2 c =
    let ps = c.args.threads.now.items in
    let x = c.index-thread.result.now in
    let at : slice_get ps c.args.t ≡ Some x = slice_get_read ps (length ps) c.args.t x refl c.requires.there c.index-thread.ensures in
    let counted = c.requires.counted in
    let fits = c.requires.fits in
    let below = now_below (noted_at ps c.args.t c.args.act.now c.args.place) in
    let is = c.made.ensures in
    let now = noted_sum (λ (y : Progress). y.depth.now) ps c.args.t c.args.act.now c.args.place x at in
    let all = noted_sum most ps c.args.t c.args.act.now c.args.place x at in
    let one = one_deeper x c.args.act.now c.args.place in
    let deep : c.deeper-depth.result.now ≡ (noted x c.args.act.now c.args.place).depth.now = ap (λ d. d.now) c.deeper-depth.ensures in
    omega (arith, counted, fits, below, is, now, all, one, deep)
