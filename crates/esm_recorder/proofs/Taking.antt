-- Recorders that are taken apart, one by one.
use Rattle.std.proofs.Common.{◌≡◌, ◌∙◌, Bool, true, false, List, [], ◌∷◌, ◌++◌, refl, sym, ap, subst, arith, map, reverse, Option, Some, None, append_assoc, append-nil}
use Rattle.std.specs.Prelude.{All, IfSome, is_some, option_map, if◌then◌else◌}
use Rattle.std.proofs.lemmas.List.{reverse-append, reverse-reverse, map-append}
use Rattle.std.proofs.lemmas.List.Elements.{All-append, All-cons}
use Rattle.esm_model.specs.declared.called.Called.{Called}
use Rattle.esm_model.specs.declared.entry.Reply.{Reply}
use Rattle.esm_recorder.specs.Recorder.{RecorderState, IsRecorder, all_kept, with_kept}
use Rattle.esm_recorder.specs.Lists.{with_last}

abbrev pub below : {F : Type 0} → List (RecorderState F) → List F
below {F} rs = map (λ (r : RecorderState F). r.caller) rs

-- those of all that are not left, which stand in the opposite order, were taken apart into these
pub record AreTaken {F : Type 0} (log : F → Option (List Called)) (asked : Bool) (all left : List (RecorderState F)) (callers : List F) (lists : Option (List (List Reply))) : Type 0 where
  pub taken : List (RecorderState F)
  pub split : taken ++ reverse left ≡ all
  pub callers_are : callers ≡ below taken
  pub recorded : All (IsRecorder log) taken
  pub lists_are : lists ≡ (if asked then all_kept taken else None)

pub no_lists : {V W : Type 0} (items : V → List W) (replies : W → List Reply) (Q : V → Type 0) (room : Option V) → IfSome room (λ v. (items v ≡ []) × Q v)
    → option_map (λ v. map replies (items v)) room ≡ (if is_some room then Some [] else None)
no_lists items replies Q None empty = refl
no_lists items replies Q (Some v) empty = ap (λ ws. Some (map replies ws)) empty.0

one_kept : (o : Option (List Reply)) → with_kept o (Some []) ≡ with_last (Some []) o
one_kept None = refl
one_kept (Some replies) = refl

behind : (o p : Option (List Reply)) (lists : Option (List (List Reply))) → with_kept o (with_last lists p) ≡ with_last (with_kept o lists) p
behind None p lists = refl
behind (Some x) None None = refl
behind (Some x) None (Some lists) = refl
behind (Some x) (Some y) None = refl
behind (Some x) (Some y) (Some lists) = refl

all_and : {F : Type 0} (rs : List (RecorderState F)) (r : RecorderState F) → all_kept (rs ++ r ∷ []) ≡ with_last (all_kept rs) r.kept
all_and [] r = one_kept r.kept
all_and (x ∷ rs) r = ap (with_kept x.kept) (all_and rs r) ∙ behind x.kept r.kept (all_kept rs)

asked_and : {F : Type 0} (asked : Bool) (rs : List (RecorderState F)) (r : RecorderState F)
    → with_last (if asked then all_kept rs else None) r.kept ≡ (if asked then all_kept (rs ++ r ∷ []) else None)
asked_and true rs r = sym (all_and rs r)
asked_and false rs r = refl

-- all of them were
pub record AllTaken {F : Type 0} (log : F → Option (List Called)) (asked : Bool) (all : List (RecorderState F)) (callers : List F) (lists : Option (List (List Reply))) : Type 0 where
  pub callers_are : callers ≡ below all
  pub recorded : All (IsRecorder log) all
  pub lists_are : lists ≡ (if asked then all_kept all else None)

module _ {F : Type 0} (log : F → Option (List Called)) where
  pub none_taken : (asked : Bool) (all left : List (RecorderState F)) (callers : List F) (lists : Option (List (List Reply)))
      → left ≡ reverse all → callers ≡ [] → lists ≡ (if asked then Some [] else None) → AreTaken log asked all left callers lists
  none_taken asked all left callers lists turned none unread = record {
    taken = [];
    split = ap reverse turned ∙ reverse-reverse all;
    callers_are = none;
    recorded = λ i d within. absurd (omega (arith, within));
    lists_are = unread;
  }

  pub take_one : (asked : Bool) (all before left : List (RecorderState F)) (r : RecorderState F) (callers now : List F) (lists more : Option (List (List Reply)))
      → AreTaken log asked all before callers lists → before ≡ left ++ r ∷ [] → IsRecorder log r → now ≡ callers ++ r.caller ∷ [] → more ≡ with_last lists r.kept
      → AreTaken log asked all left now more
  take_one asked all before left r callers now lists more is shorter recorded one last = record {
    taken = is.taken ++ r ∷ [];
    split = append_assoc is.taken (r ∷ []) (reverse left)
        ∙ ap (λ rest. is.taken ++ rest) (sym (ap reverse shorter ∙ reverse-append left (r ∷ [])))
        ∙ is.split;
    callers_are = one ∙ ap (λ cs. cs ++ r.caller ∷ []) is.callers_are ∙ sym (map-append (λ (x : RecorderState F). x.caller) is.taken (r ∷ []));
    recorded = All-append (IsRecorder log) is.taken (r ∷ []) is.recorded (All-cons (IsRecorder log) r [] recorded (λ i d within. absurd (omega (arith, within))));
    lists_are = last ∙ ap (λ o. with_last o r.kept) is.lists_are ∙ asked_and asked is.taken r;
  }

  pub all_taken : (asked : Bool) (all left : List (RecorderState F)) (callers : List F) (lists : Option (List (List Reply)))
      → AreTaken log asked all left callers lists → left ≡ [] → AllTaken log asked all callers lists
  all_taken asked all left callers lists is none =
      let whole : is.taken ≡ all = sym (append-nil is.taken) ∙ ap (λ rest. is.taken ++ reverse rest) (sym none) ∙ is.split in record {
        callers_are = is.callers_are ∙ ap below whole;
        recorded = subst (All (IsRecorder log)) whole is.recorded;
        lists_are = is.lists_are ∙ ap (λ rs. if asked then all_kept rs else None) whole;
      }
