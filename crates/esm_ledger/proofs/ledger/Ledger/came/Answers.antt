use Rattle.std.proofs.Common.{◌≡◌, ◌+◌, ◌++◌, ◌∷◌, [], ℕ, List, length, Some, sym, ap, ◌∙◌, subst, arith, rules, Vec, Global, vec_len}
use Rattle.std.specs.Prelude.{slice_get, vec_capacity}
use Rattle.esm_model.specs.declared.entry.Entry.TheVariants.{Came}
use Rattle.esm_model.specs.Entries.{came_count}
use Rattle.esm_ledger.specs.declared.shard.ShardLedger.{ShardLedger}
use Rattle.esm_model.specs.declared.entry.Entry.{Entry}
use Rattle.esm_ledger.specs.declared.ledger.Ledger.{Ledger}
use Rattle.esm_ledger.specs.Coming.{grown, listed, Takes}
use Rattle.esm_ledger.specs.Ledger.{past_of, setting_of}
use Rattle.esm_ledger.proofs.Ledgers.{own_legal}
use Rattle.esm_ledger.proofs.KeptLedgers.{note_room}
use Rattle.esm_ledger.proofs.Comes.{ready, can_take, took_here, came_added, same_but}
use Rattle.esm_ledger.proofs.Prepared.{push_room, room_came, room_known, came_elsewhere, came_own}
use Rattle.esm_ledger.proofs.ledger.Ledger.came.Goals as goal

pub push_fresh-requires : goal.push_fresh-requires
push_fresh-requires c = push_room c.args.self.now c.args.coming.fresh c.requires.shards

pub shard_came-requires-clause-some : goal.shard_came-requires-clause-some
shard_came-requires-clause-some c =
    let is = ready c.args.self.now c.args.coming c.requires.kept c.requires.coming in
    (is.some.1, (is.some.0, subst (λ (xs : List ShardLedger). slice_get xs is.some.0 ≡ Some is.some.1) (sym c.push_fresh.ensures.items) is.some.2, is.some.3))

pub shard_came-requires-clause-fits : goal.shard_came-requires-clause-fits
shard_came-requires-clause-fits c = λ x at.
    let is = ready c.args.self.now c.args.coming c.requires.kept c.requires.coming in
    can_take c.args.self.now c.args.coming (c.args.self.now.shards.items ++ listed c.args.coming.fresh) at.0 x c.requires.kept c.requires.coming is
    (subst (λ (xs : List ShardLedger). slice_get xs at.0 ≡ Some x) c.push_fresh.ensures.items at.1) at.2

pub note-requires : goal.note-requires
note-requires c = note_room c.args.self.now c.shard_came.new.self 1 c.shard_came.ensures.before c.requires.room (omega arith)

pub returns : goal.returns
returns c =
    let self = c.args.self.now in
    let x = c.args.coming in
    let w = c.shard_came.new.self in
    let d = c.note.new.self in
    let m = c.args.moment in
    let xs = c.args.self.now.shards.items ++ listed c.args.coming.fresh in
    let ys = c.shard_came.new.self.shards.items in
    let is = ready self x c.requires.kept c.requires.coming in
    let took : Takes xs ys c.args.coming.shard c.args.moment c.args.coming.arriving =
    subst (λ (zs : List ShardLedger). Takes zs ys x.shard m x.arriving) c.push_fresh.ensures.items c.shard_came.ensures.took in
    let all : vec_len c.args.coming.arriving.records ≡ length c.args.coming.arriving.records.items = search rules in
    let count : c.len-count.result ≡ length c.args.coming.arriving.records.items = cc in
    let first : c.came_of-first.result ≡ came_count (past_of c.args.self.now) c.args.coming.shard = c.came_of-first.ensures in
    let history : c.shard_came.new.self.history ≡ c.args.self.now.history = ap (λ (z : Ledger). z.history) c.shard_came.ensures.before in
    let legal = own_legal (grown (setting_of self) x.shard x.arriving.records.items) (Came x.shard (came_count (past_of self) x.shard) (length x.arriving.records.items) m ∷ past_of self) c.requires.legal in
    let done = came_added self d x.shard m x.arriving xs took.place took.was took.now c.requires.kept c.requires.room c.requires.legal c.requires.coming.few is took.at took.there
    (took_here self x m xs ys took c.requires.kept c.requires.coming legal)
    (same_but self w d m c.shard_came.ensures.before c.note.ensures.others)
    (ap (λ (z : Ledger). z.shards.items) c.note.ensures.others ∙ took.items)
    (c.note.ensures.history
    ∙ ap (λ (v : Vec Entry Global). v.items ++ Came x.shard c.came_of-first.result c.len-count.result m ∷ []) history
    ∙ ap (λ (n : ℕ). self.history.items ++ Came x.shard n c.len-count.result m ∷ []) first
    ∙ ap (λ (n : ℕ). self.history.items ++ Came x.shard (came_count (past_of self) x.shard) n m ∷ []) count)
    (c.note.ensures.len ∙ ap (λ (v : Vec Entry Global). vec_len v + 1) history)
    (c.note.ensures.capacity ∙ ap (λ (v : Vec Entry Global). vec_capacity v) history) in
    let shards : c.note.new.self.shards ≡ c.shard_came.new.self.shards = ap (λ (z : Ledger). z.shards) c.note.ensures.others in
    let taken : Takes xs c.note.new.self.shards.items c.args.coming.shard c.args.moment c.args.coming.arriving =
    subst (λ (v : Vec ShardLedger Global). Takes xs v.items x.shard m x.arriving) (sym shards) took in
    record {
      kept = done.kept;
      past = done.past;
      setting = done.setting;
      room = done.room;
      shards = λ n r. room_came self w d c.push_fresh.new.shards x.fresh n shards c.shard_came.ensures.len c.shard_came.ensures.capacity c.push_fresh.ensures.len c.push_fresh.ensures.capacity r;
      shards_known = λ known n r. room_known self w d c.push_fresh.new.shards x.fresh n shards c.shard_came.ensures.len c.shard_came.ensures.capacity c.push_fresh.ensures.len c.push_fresh.ensures.capacity known r;
      elsewhere = came_elsewhere self d m x taken c.requires.kept c.requires.coming legal done.past done.setting;
      own = λ known. came_own self d m x taken known;
    }
