use Rattle.esm_redrive_run.proofs.laws.moments_hold.Goals as goal

pub returns : goal.returns
returns g c = record {
  came = c.entries_have_moment.ensures.came;
  next = c.entries_have_moment.ensures.next;
  ended = c.entries_have_moment.ensures.ended;
  all = c.moments_stay.ensures.all;
  some = c.moments_stay.ensures.some;
  one = c.moments_stay.ensures.one;
}
