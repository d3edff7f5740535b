-- How a destination goes on, and what a crash leaves of it.
use Rattle.std.proofs.Common.{◌≡◌, ◌≤◌, inl, inr, ⊎_elim, ℕ, true, false, List, [], ◌∷◌, ◌++◌, Option, Some, map, refl, sym, ap, subst, ◌∙◌, arith, append_assoc, append-nil}
use Rattle.esm_io.specs.Faults.{IsCount, Rose}
use Rattle.esm_io.specs.Images.{LeavesOnly}
use Rattle.esm_io.specs.Meanings.{DestMeaning}
use Rattle.esm_io.specs.Told.{Grows, IsEither}
use Rattle.esm_book.specs.Decided.{written_of}
use Rattle.esm_book.specs.Meanings.{CoreMeaning}
use Rattle.esm_book.specs.Growth.{ReadsFront, IsHeld, Takes, HasDelivered, AreTold}
use Rattle.esm_book.specs.Answers.{IsSameDest}
use Rattle.esm_book.proofs.Lists.{clash, grows_none, grows_then, silent_within, sent-append}
use Rattle.esm_book.proofs.Appending.{rose_later}

-- the lines of a destination that told them
told_at : {A : Type 0} (old now : Option (List A)) (held more : List A) → old ≡ Some held → Grows old now more → now ≡ Some (held ++ more)
told_at {A} old now held more is grows = subst (λ (o : Option (List A)). Grows o now more) is grows

module _ (reads : List ℕ → List (List ℕ) → Type 0) (held : List (List ℕ)) where
  -- these lines, and none of those that follow
  front_none : (lines : List (List ℕ)) (left : List ℕ) → reads left held → ReadsFront reads held lines left
  front_none lines left is = record { front = []; rest = lines; split = refl; reads = subst (reads left) (sym (append-nil held)) is }

  -- with or without one more line
  front_either : (line : List ℕ) (lines : List (List ℕ)) (left : List ℕ) → lines ≡ line ∷ [] → IsEither reads held line left → ReadsFront reads held lines left
  front_either line lines left is (inl without) = front_none lines left without
  front_either line lines left is (inr whole) = record { front = line ∷ []; rest = []; split = sym is; reads = whole }

  -- a front of the first lines is one of all
  front_more : (one more all : List (List ℕ)) (left : List ℕ) → all ≡ one ++ more → ReadsFront reads held one left → ReadsFront reads held all left
  front_more one more all left is some = record {
    front = some.front;
    rest = some.rest ++ more;
    split = sym (append_assoc some.front some.rest more) ∙ ap (λ l. l ++ more) some.split ∙ sym is;
    reads = some.reads;
  }

  -- and so is one of the lines behind these
  front_behind : (one more all : List (List ℕ)) (left : List ℕ) → all ≡ one ++ more → ReadsFront reads (held ++ one) more left → ReadsFront reads held all left
  front_behind one more all left is some = record {
    front = one ++ some.front;
    rest = some.rest;
    split = append_assoc one some.front some.rest ∙ ap (λ l. one ++ l) some.split ∙ sym is;
    reads = subst (reads left) (append_assoc held one some.front) some.reads;
  }

  -- a front of no lines
  front_is : (left : List ℕ) → ReadsFront reads held [] left → reads left held
  front_is left some = subst (reads left) (ap (λ l. held ++ l) (front_of_none some.front some.rest some.split) ∙ append-nil held) some.reads
    where
      front_of_none : (front rest : List (List ℕ)) → front ++ rest ≡ [] → front ≡ []
      front_of_none [] rest is = refl
      front_of_none (line ∷ front) rest is = cc

-- lines were taken, and then more
takes_then : {T : Type 0} (n : DestMeaning T) (a b c : T) (held one more all : List (List ℕ)) → all ≡ one ++ more → Takes n a b held one → Takes n b c (held ++ one) more → Takes n a c held all
takes_then n a b c held one more all is first second = record {
  later = omega (arith, first.later, second.later);
  images = λ t left early since.
      ⊎_elim
      (λ before. ⊎_elim (λ old. inl old) (λ some. inr (front_more n.reads_as held one more all left is some)) (first.images t left early before))
      (λ some. inr (front_behind n.reads_as held one more all left is some))
      (second.images t left (omega (arith, early, first.later)) since);
}

module _ {C E T : Type 0} (k : CoreMeaning C E) (n : DestMeaning T) where
  -- entries without a line; room may have been made
  pub delivered_silent : (old new : T) (entries : List E) → written_of k.line entries ≡ [] → IsSameDest n old new → n.failed old ≡ false → HasDelivered k n old new entries []
  delivered_silent old new entries none same usable = record {
    told = subst (λ l. Grows (n.lines old) (n.lines new) (map n.sends l)) (sym none) (grows_none (n.lines old) (n.lines new) same.lines);
    honesty = same.honesty;
    never_falls = omega (arith, same.faults);
    cause = λ failed. absurd (clash (sym failed ∙ same.failed ∙ usable));
    images = λ honest held is. record { later = omega (arith, same.moment); images = λ t left early since. inl (same.images t left since) };
    durable = λ honest held is before left since.
        front_none n.reads_as (held ++ map n.sends (written_of k.line entries)) [] left
        (subst (n.reads_as left) (sym (ap (λ l. held ++ map n.sends l) none ∙ append-nil held))
        (before left (same.images (n.moment old) left (subst (λ t. n.since new t left) same.moment since))));
  }

  -- more lines after these
  pub delivered_then : (a b c : T) (one more tried : List E) → HasDelivered k n a b one [] → HasDelivered k n b c more tried → HasDelivered k n a c (one ++ more) tried
  delivered_then a b c one more tried first second = record {
    told =
        subst (Grows (n.lines a) (n.lines c)) (sym (sent-append k.line n.sends one more))
        (grows_then (n.lines a) (n.lines b) (n.lines c) (map n.sends (written_of k.line one)) (map n.sends (written_of k.line more)) first.told second.told);
    honesty = second.honesty ∙ first.honesty;
    never_falls = omega (arith, first.never_falls, second.never_falls);
    cause = λ failed. rose_later (n.faults a) (n.faults b) (n.faults c) first.never_falls (second.cause failed);
    images = λ honest held is.
        takes_then n a b c held sent (map n.sends (written_of k.line (more ++ tried))) (map n.sends (written_of k.line ((one ++ more) ++ tried))) all
        (subst (λ l. Takes n a b held (map n.sends (written_of k.line l))) (append-nil one) (first.images honest held is))
        (second.images (first.honesty ∙ honest) (held ++ sent) (told_at (n.lines a) (n.lines b) held sent is first.told));
    durable = λ honest held is before left since.
        subst (λ l. ReadsFront n.reads_as l (map n.sends (written_of k.line tried)) left) (both held)
        (second.durable (first.honesty ∙ honest) (held ++ sent) (told_at (n.lines a) (n.lines b) held sent is first.told)
        (λ image now. front_is n.reads_as (held ++ sent) image (first.durable honest held is before image now)) left since);
  }
    where
      sent : List (List ℕ)
      sent = map n.sends (written_of k.line one)

      all : map n.sends (written_of k.line ((one ++ more) ++ tried)) ≡ sent ++ map n.sends (written_of k.line (more ++ tried))
      all = ap (λ l. map n.sends (written_of k.line l)) (append_assoc one more tried) ∙ sent-append k.line n.sends one (more ++ tried)

      both : (held : List (List ℕ)) → (held ++ sent) ++ map n.sends (written_of k.line more) ≡ held ++ map n.sends (written_of k.line (one ++ more))
      both held = append_assoc held sent (map n.sends (written_of k.line more)) ∙ ap (λ l. held ++ l) (sym (sent-append k.line n.sends one more))

  -- and entries between that have no line
  pub delivered_noted : (a b : T) (paid noted hand tried : List E) → written_of k.line noted ≡ [] → HasDelivered k n a b (paid ++ hand) tried → HasDelivered k n a b ((paid ++ noted) ++ hand) tried
  delivered_noted a b paid noted hand tried none was = record {
    told = subst (λ l. Grows (n.lines a) (n.lines b) (map n.sends l)) (sym silent) was.told;
    honesty = was.honesty;
    never_falls = was.never_falls;
    cause = was.cause;
    images = λ honest held is. subst (λ l. Takes n a b held (map n.sends l)) (sym silent_all) (was.images honest held is);
    durable = λ honest held is before left since.
        subst (λ l. ReadsFront n.reads_as (held ++ map n.sends l) (map n.sends (written_of k.line tried)) left) (sym silent) (was.durable honest held is before left since);
  }
    where
      silent : written_of k.line ((paid ++ noted) ++ hand) ≡ written_of k.line (paid ++ hand)
      silent = silent_within k.line paid noted hand none

      silent_all : written_of k.line (((paid ++ noted) ++ hand) ++ tried) ≡ written_of k.line ((paid ++ hand) ++ tried)
      silent_all =
          ap (written_of k.line) (append_assoc (paid ++ noted) hand tried)
          ∙ silent_within k.line paid noted (hand ++ tried) none
          ∙ ap (written_of k.line) (sym (append_assoc paid hand tried))

  -- what a crash leaves over a delivery of this line
  abbrev pub Leaves : T → T → List ℕ → Type 0
  Leaves old new line = n.honest old ≡ true → (held : List (List ℕ)) → n.lines old ≡ Some held → LeavesOnly n.moment n.since old new (IsEither n.reads_as held (n.sends line))

  -- the line of these entries
  pub delivered_one : (old new : T) (entries : List E) (line : List ℕ) → written_of k.line entries ≡ line ∷ []
      → Grows (n.lines old) (n.lines new) (n.sends line ∷ []) → n.failed new ≡ false → n.honest new ≡ n.honest old → IsCount (n.faults old) (n.faults new)
      → Leaves old new line → (n.honest old ≡ true → (held : List (List ℕ)) → n.lines old ≡ Some held → IsHeld n new (held ++ n.sends line ∷ []))
      → HasDelivered k n old new entries []
  delivered_one old new entries line is sent usable honesty count leaves last = record {
    told = subst (λ l. Grows (n.lines old) (n.lines new) (map n.sends l)) (sym is) sent;
    honesty = honesty;
    never_falls = count.never_falls;
    cause = λ failed. absurd (clash (sym failed ∙ usable));
    images = λ honest held told.
        let any = leaves honest held told in
        record {
          later = any.later;
          images = λ t left early since.
              ⊎_elim
              (λ before. inl before)
              (λ either. inr (front_either n.reads_as held (n.sends line) (map n.sends (written_of k.line (entries ++ []))) left
              (ap (λ l. map n.sends (written_of k.line l)) (append-nil entries) ∙ ap (map n.sends) is) either))
              (any.before t left early since);
        };
    durable = λ honest held told before left since.
        front_none n.reads_as (held ++ map n.sends (written_of k.line entries)) [] left
        (subst (λ l. n.reads_as left (held ++ map n.sends l)) (sym is) (last honest held told left since));
  }

  -- the destination failed over the line of these entries
  pub not_delivered : (old new : T) (tried : List E) (line : List ℕ) → written_of k.line tried ≡ line ∷ []
      → n.lines new ≡ n.lines old → n.honest new ≡ n.honest old → IsCount (n.faults old) (n.faults new) → Rose (n.faults old) (n.faults new)
      → Leaves old new line → ((t : ℕ) (left : List ℕ) → n.honest new ≡ true → t ≤ n.moment new → n.since new (n.moment new) left → n.since new t left)
      → HasDelivered k n old new [] tried
  not_delivered old new tried line is same honesty count rose leaves counts_now = record {
    told = grows_none (n.lines old) (n.lines new) same;
    honesty = honesty;
    never_falls = count.never_falls;
    cause = λ _. rose;
    images = λ honest held told.
        let any = leaves honest held told in
        record {
          later = any.later;
          images = λ t left early since.
              ⊎_elim
              (λ before. inl before)
              (λ either. inr (front_either n.reads_as held (n.sends line) (map n.sends (written_of k.line tried)) left (ap (map n.sends) is) either))
              (any.before t left early since);
        };
    durable = λ honest held told before left since.
        let any = leaves honest held told in
        subst (λ l. ReadsFront n.reads_as l (map n.sends (written_of k.line tried)) left) (sym (append-nil held))
        (front_either n.reads_as held (n.sends line) (map n.sends (written_of k.line tried)) left (ap (map n.sends) is)
        (any.each left (counts_now (n.moment old) left (honesty ∙ honest) any.later since)));
  }

  -- the lines of the first of the entries were told
  pub told_front : (old new : T) (front rest entries : List E) → front ++ rest ≡ entries → Grows (n.lines old) (n.lines new) (map n.sends (written_of k.line entries))
      → AreTold (n.lines old) (n.lines new) (map n.sends (written_of k.line front))
  told_front old new front rest entries is told = (
    map n.sends (written_of k.line rest),
    subst (Grows (n.lines old) (n.lines new)) (ap (λ l. map n.sends (written_of k.line l)) (sym is) ∙ sent-append k.line n.sends front rest) told,
  )
