use Rattle.std.proofs.Common.{◌≡◌, ◌<◌, length, sym, subst, arith}
use Rattle.ca_reach.specs.Reach.{rows_of}
use Rattle.ca_callers.proofs.Filled.{IsBehindAll, size_is, behind_whole, above_whole, begun_whole}
use Rattle.ca_callers.proofs.tables.make_tables.Goals as goal

pub returns : goal.returns
returns c =
    let l = c.args.code.now in
    let p = l.source in
    let lowered = c.graphs.ensures.lowered in
    let size = c.behind_all-size.result in
    let all : IsBehindAll l.graphs size = subst (λ gs. IsBehindAll gs size) c.graphs.ensures.graphs c.behind_all-size.ensures in
    let within = size_is l lowered size all in
    let long : length (rows_of c.in_ok-back.back.items) ≡ size = c.in_ok-back.ensures.length in
    record {
      formed = lowered.formed;
      small = (let fits = c.behind_all-size.type_inv in record {
        back = omega (arith, long, fits);
        stops = (let stops = c.in_ok-stops.ensures.length in omega (arith, stops, fits));
        above = (let above = c.in_ok-above.ensures.length in omega (arith, above, fits));
        begun = (let begun = c.in_ok-begun.ensures.length in omega (arith, begun, fits));
      });
      within = λ i own. subst (λ n. i.id.0 < n) (sym long) (within i own);
      functions = c.functions_of-functions.ensures;
      back = behind_whole p lowered.formed size within (rows_of c.in_ok-back.back.items) _ c.in_ok-back.ensures.rows;
      stops = behind_whole p lowered.formed size within (rows_of c.in_ok-stops.stops.items) _ c.in_ok-stops.ensures.rows;
      above = above_whole p lowered.formed size within (rows_of c.in_ok-above.above.items) c.in_ok-above.ensures.rows;
      begun = begun_whole p lowered.formed size within (rows_of c.in_ok-begun.begun.items) c.in_ok-begun.ensures.rows;
    }
