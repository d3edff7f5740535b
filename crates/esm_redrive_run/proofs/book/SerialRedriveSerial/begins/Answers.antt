use Rattle.std.proofs.Common.{◌≡◌, ℕ, zero, suc, [], ap, refl, subst, sym}
use Rattle.std.specs.Prelude.{map, is_some}
use Rattle.esm_model.specs.declared.item.Item.TheVariants as items
use Rattle.esm_model.specs.Kept.{change_of}
use Rattle.esm_redrive_model.specs.RedriveReport.{redrive_calls}
use Rattle.esm_redrive_run.specs.Book.{Book, AreArrivals, items_in}
use Rattle.std.proofs.lemmas.List.{append-nil}
use Rattle.esm_redrive_run.proofs.book.SerialRedriveSerial.begins.Goals as goal

none_yet : {D : Type 0} (b : Book D) (n : ℕ) → b.core.setting.queue.messages ≡ [] → items_in b n ≡ []
none_yet b zero none = ap (map items.Queue) none
none_yet b (suc n) none = refl

pub returns : goal.returns
returns g c =
    let b = c.args.self.now.redrive in
    let fresh = c.requires.fresh in
    record {
      since = λ gave sends. record {
        opened = refl;
        found = refl;
        found_dest = refl;
        sound = λ is. is;
        moments = λ is. is;
        timed = λ is. is;
        called = sym (append-nil (redrive_calls b.core.setting sends b.core.past));
        later = λ is. is;
      };
      going = subst AreArrivals (sym fresh.past) tt;
      items = λ n. none_yet b n fresh.messages;
      up = ap is_some fresh.up;
      change = ap change_of fresh.up;
    }
