use Rattle.std.proofs.Common.{◌+◌, drop, get_or, ◌∙◌, sym, ap, arith}
use Rattle.esm_window.specs.Scan.{marks, part_after, depth_after}
use Rattle.esm_window.specs.Marks.{part_of, finds}
use Rattle.esm_window.proofs.Scans.{marked, unmarked, found_at_end, still_before}
use Rattle.esm_window.proofs.marks.last_state.Goals as goal
use Rattle.esm_window.proofs.marks.last_state.Goals.{then-is_mark+in_ok-scan, else-is_mark}

pub loop-place-preserved : goal.loop-place-preserved
loop-place-preserved c =
    let body = c.args.body.now in
    let l = c.loop-place in
    let x = get_or body l.place 0 in
    let rest = marks (part_after (part_of l.part) x) (depth_after (part_of l.part) l.depth x) (l.place + 1) (drop (l.place + 1) body) in
    elim c.if-is_mark.branch [
      | then-is_mark+in_ok-scan w ↦
          record {
            shallow = omega arith;
            before = rw w.scan-is w.in_ok-scan.ensures.before;
            found =
                rw (w.scan-is, c.after-part.ensures, c.depth_after-depth.ensures.depth)
                (l.invariant.found ∙ ap (λ ms. finds body l.scan ms) (marked body (part_of l.part) l.depth l.place c.loop-place-test.true (sym w.if-is_mark.ensures))
                ∙ w.in_ok-scan.ensures.found rest);
          }
      | else-is_mark w ↦
          record {
            shallow = omega arith;
            before = rw w.scan-is (still_before l.place l.scan l.invariant.before);
            found =
                rw (w.scan-is, c.after-part.ensures, c.depth_after-depth.ensures.depth)
                (l.invariant.found ∙ ap (λ ms. finds body l.scan ms) (unmarked body (part_of l.part) l.depth l.place c.loop-place-test.true (sym w.if-is_mark.ensures)));
          }
    ]

pub returns-clause-found : goal.returns-clause-found
returns-clause-found c = sym (c.loop-place.invariant.found ∙ found_at_end c.args.body.now c.loop-place.scan (part_of c.loop-place.part) c.loop-place.depth c.loop-place.place c.loop-place-test.false)
