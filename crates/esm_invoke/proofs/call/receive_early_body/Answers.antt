use Rattle.std.proofs.Common.{◌≡◌, ◌≢◌, refl, take, subst, arith, length, rules, vec_len}
use Rattle.std.proofs.lemmas.List.{length-take-le}
use Rattle.esm_model.specs.declared.entry.Reply.TheVariants.{Lost}
use Rattle.esm_invoke.specs.Receiving.{Replies}
use Rattle.esm_invoke.proofs.CallLemmas.{misses_unread, misses_garbled, misses_failed, answers_whole, is_answer}
use Rattle.esm_invoke.proofs.call.receive_early_body.Goals as goal

pub returns-in-UntilClose-clause-missed : goal.returns-in-UntilClose-clause-missed
returns-in-UntilClose-clause-missed g c = λ _. misses_unread _ _ _ _ c.args.head c.requires.begins c.in-UntilClose.is

pub returns-in-Garbled : goal.returns-in-Garbled
returns-in-Garbled g c =
    let told = g.L.Link.told in
    let start = take c.args.first c.args.buffer.now.items in
    let replied = subst (λ reply. reply ≢ Lost → Replies (told c.args.link.now) (told c.receive_body.new.link) start reply) c.in-Garbled.is c.in_ok-reply-in_default.ensures.replied in
    record {
      read = c.receive_body.ensures.read;
      answered = λ other. absurd (other refl);
      missed = λ _. misses_garbled _ _ start _ _ c.in-Garbled.bytes (replied (λ e. cc));
      count = c.receive_body.ensures.count;
      room = c.receive_body.ensures.room;
    }

pub returns-in_default-2 : goal.returns-in_default-2
returns-in_default-2 g c =
    let buffer = c.args.buffer.now in
    let all : vec_len buffer ≡ length buffer.items = search rules in
    let start = take c.args.first buffer.items in
    let len : length start ≡ c.args.first = length-take-le c.args.first buffer.items (omega (arith, c.requires.within)) in
    let reply = c.in_ok-reply-in_default.reply in
    record {
      read = c.receive_body.ensures.read;
      answered = λ other. answers_whole _ _ start c.args.head reply (omega (arith, len, c.requires.len)) c.requires.begins c.in_default.not-UntilClose
          (is_answer reply other c.in_default-2.not-Garbled) (c.in_ok-reply-in_default.ensures.replied other);
      missed = λ is. misses_failed _ _ start _ _ (c.in_ok-reply-in_default.ensures.none is) (c.in_ok-reply-in_default.ensures.lost is);
      count = c.receive_body.ensures.count;
      room = c.receive_body.ensures.room;
    }
