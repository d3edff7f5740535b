use Rattle.std.proofs.Common.{◌≡◌, ℕ, ◌<◌, List, length, get_or, set, take, refl, sym, ap, subst, ◌∙◌, false, arith}
use Rattle.std.specs.Prelude.{Result, Ok, Err, IsOk, OnOk}
use Rattle.std.proofs.lemmas.Bool.{both_ways}
use Rattle.std.proofs.lemmas.List.{length-map}
use Rattle.std.proofs.lemmas.List.Elements.{All-get_or}
use Rattle.std.proofs.lemmas.Option.{slice_get-get_or}
use Rattle.esm_model.specs.Moment.{moment_after}
use Rattle.esm_queue_model.specs.declared.stored.Stored.{Stored}
use Rattle.esm_queue_model.specs.Queue.{received_once}
use Rattle.esm_queue.specs.Groups.{IsHeadedBy}
use Rattle.esm_queue.specs.Moments.{leaf, leaves}
use Rattle.esm_queue.proofs.Changing.{changed_from-none, marked_more, kept_at, length-changed_from}
use Rattle.esm_queue.proofs.Leaves.{leaves_marked, holds_at}
use Rattle.esm_queue.proofs.marking.hide_all.Goals as goal

pub loop-place-init : goal.loop-place-init
loop-place-init c = record {
  marked = sym (changed_from-none (received_once c.args.now) 0 c.args.messages.now);
  shown = c.requires.shown;
  spare = refl;
  ready = c.requires.ready;
  headed = c.requires.headed;
  kind = refl;
  links = refl;
  buckets = refl;
  room = refl;
}

-- what an `Ok` tells
on_ok : {E : Type 0} (P : Type 0) (r : Result (Unit {0}) E) → IsOk r → OnOk r P → P
on_ok P (Ok u) is h = h
on_ok P (Err e) is h = absurd (both_ways false refl is)

pub set-requires : goal.set-requires
set-requires c =
    let f = received_once c.args.now in
    let n = c.loop-place.place-index in
    let v = c.args.visibility_ms in
    let inv = c.loop-place.invariant in
    let low : get_or c.args.places.now n 0 < length c.args.messages.now = All-get_or (λ i. i < length c.args.messages.now) c.args.places.now n 0 c.loop-place-test.true c.requires.within in
    let sized : length c.loop-place.shows.moments ≡ length c.args.messages.now = ap length inv.shown ∙ (length-map c.loop-place.messages (leaf v) ∙ (ap length inv.marked ∙ length-changed_from f (take n c.args.places.now) 0 c.args.messages.now)) in
    omega arith

pub loop-place-preserved : goal.loop-place-preserved
loop-place-preserved c =
    let n = c.loop-place.place-index in
    let f = received_once c.args.now in
    let places = c.args.places.now in
    let p = get_or places n 0 in
    let v = c.args.visibility_ms in
    let inv = c.loop-place.invariant in
    let d = c.index-messages-place.result in
    let within = c.loop-place-test.true in
    let low : p < length c.args.messages.now = All-get_or (λ i. i < length c.args.messages.now) places n 0 within c.requires.within in
    let kept : get_or c.loop-place.messages p d ≡ get_or c.args.messages.now p d = kept_at f places n c.loop-place.messages c.args.messages.now d c.requires.rising within inv.marked in
    let alive : (get_or c.args.messages.now p d).deleted ≡ false = c.requires.alive p (get_or c.args.messages.now p d) (holds_at places n within) (slice_get-get_or c.args.messages.now p d low) in
    let alive_now : (get_or c.loop-place.messages p d).deleted ≡ false = ap (λ (x : Stored). x.deleted) kept ∙ alive in
    let same : c.moment_after-show.result ≡ c.loop-place.shows.ready = c.moment_after-show.ensures ∙ sym inv.ready in
    let set_is = on_ok (c.set.new.self.moments ≡ set c.loop-place.shows.moments p c.moment_after-show.result) c.set.result (c.set.ensures.succeeds same) c.set.ensures.ok in
    let moved : c.set.new.self.moments ≡ set c.loop-place.shows.moments p (moment_after c.args.now v) = set_is ∙ ap (λ k. set c.loop-place.shows.moments p k) c.moment_after-show.ensures in
    record {
      marked = marked_more f places n c.loop-place.messages c.args.messages.now d c.receive_one.new.stored c.requires.rising within c.requires.within inv.marked c.receive_one.ensures;
      shown = moved ∙ (ap (λ (ms : List ℕ). set ms p (moment_after c.args.now v)) inv.shown ∙ leaves_marked v c.args.now c.loop-place.messages p d c.receive_one.new.stored alive_now c.receive_one.ensures);
      spare = c.set.ensures.spare ∙ inv.spare;
      ready = c.set.ensures.ready same ∙ inv.ready;
      headed = subst (λ (ms : List ℕ). IsHeadedBy ms c.show.new.self) (ap (λ k. set (leaves v c.loop-place.messages) p k) c.moment_after-show.ensures ∙ leaves_marked v c.args.now c.loop-place.messages p d c.receive_one.new.stored alive_now c.receive_one.ensures) (c.show.ensures.headed (leaves v c.loop-place.messages) inv.headed);
      kind = c.show.ensures.kind ∙ inv.kind;
      links = c.show.ensures.links ∙ inv.links;
      buckets = c.show.ensures.buckets ∙ inv.buckets;
      room = c.show.ensures.spare ∙ inv.room;
    }
