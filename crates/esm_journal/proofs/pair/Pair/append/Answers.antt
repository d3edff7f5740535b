use Rattle.std.proofs.Common.{◌≡◌, ◌∙◌, false, [], ◌∷◌, ◌++◌, refl, sym, ap, subst}
use Rattle.esm_io.specs.Meanings.{disk}
use Rattle.esm_journal.specs.File.{header_of, IsFile}
use Rattle.esm_journal.specs.Log.{IsEither}
use Rattle.esm_journal.specs.Pair.{IsSpare}
use Rattle.esm_journal.specs.State.{JournalState}
use Rattle.esm_journal.proofs.Heads.{not_true}
use Rattle.esm_journal.proofs.Pairs.{keeps_pair, pair_either}
use Rattle.esm_journal.proofs.Stops.{clash, is_pair_added}
use Rattle.esm_journal.proofs.pair.Pair.append.Goals as goal

pub returns-clause-told : goal.returns-clause-told
returns-clause-told g c = rw (← c.self.view_is) c.append.ensures.told

pub returns-clause-pair_images : goal.returns-clause-pair_images
returns-clause-pair_images g c =
    rw (← c.self.view_is) (λ h1 h2 up one other was_one was_other.
    let log = c.self.inside.log in
    let pair = c.self.invariant.1 in
    let spare = c.self.inside.spare in
    let settled = pair.settled h2 up other (g.met.D.Disk.only_now spare other h2 was_other) in
    let either = subst (λ l. IsEither l log.epoch log.payloads.items (log.payloads.items ++ c.args.payload.now ∷ []) one) pair.header ((c.append.ensures.any_moment h1 up).each one was_one) in
    pair_either (header_of 2) log.epoch log.payloads.items c.args.payload.now one other refl either (subst (IsSpare (header_of 2) log.epoch) (sym settled) (pair.beside h1 h2 up)))

pub returns-clause-kept : goal.returns-clause-kept
returns-clause-kept g c = λ h1 h2 up.
    let pair = c.self.invariant.1 in
    let new = c.append.new.self in
    let is_new = c.append.ensures.log in
    let was_up : c.self.inside.log.down ≡ false = not_true c.self.inside.log.down (λ was_down. let same = (c.append.ensures.told.down (c.append.ensures.told.is_down was_down)).0 in clash (sym up ∙ ap (λ (s : JournalState g.row.D.Denot). s.down) same ∙ was_down)) in
    let content = g.D.Disk.content new.disk in
    keeps_pair (disk g.D.Disk) (header_of 2) new.epoch new.payloads.items new.disk c.self.inside.spare refl
    (subst (λ l. IsFile l new.epoch new.payloads.items content) (c.append.ensures.header ∙ pair.header) (is_new.file h1 up)) (is_new.synced h1 up)
    (subst (λ n. IsSpare (header_of 2) n (g.D.Disk.content c.self.inside.spare)) (sym c.append.ensures.epoch) (pair.beside (sym c.append.ensures.told.honesty ∙ h1) h2 was_up)) (pair.settled h2 was_up)

pub invariant_of-self : goal.invariant_of-self
invariant_of-self g c =
    let log = c.self.inside.log in (
      c.append.ensures.log,
      is_pair_added (disk g.D.Disk) log c.self.inside.spare c.self.inside.spare_sealed c.self.invariant.0 c.self.invariant.1
          c.append.new.self c.append.ensures.log c.append.ensures.header c.append.ensures.epoch c.append.ensures.told.honesty
          (λ up. not_true log.down (λ was_down. let same = (c.append.ensures.told.down (c.append.ensures.told.is_down was_down)).0 in clash (sym up ∙ ap (λ (s : JournalState g.row.D.Denot). s.down) same ∙ was_down)))
          (λ was_down. let same = (c.append.ensures.told.down (c.append.ensures.told.is_down was_down)).0 in (ap (λ (s : JournalState g.row.D.Denot). s.disk) same, ap (λ (s : JournalState g.row.D.Denot). s.payloads) same)),
    )
