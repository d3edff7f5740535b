-- A run over a destination that stands over its failure file, as a run over the file.
use Rattle.std.proofs.Common.{◌≡◌, ◌∙◌, ◌≤◌, ℕ, true, false, List, [], ◌∷◌, ◌++◌, map, Result, Ok, Err, Option, Some, None, ap, ap₂, inl, inr, refl, subst, sym}
use Rattle.std.specs.Prelude.{IfOk, OnErr, OnOk}
use Rattle.esm_io.specs.Faults.{Rose}
use Rattle.esm_io.specs.Meanings.{DestMeaning, DiskMeaning}
use Rattle.esm_io.specs.Told.{Grows}
use Rattle.esm_journal.specs.Pair.{PairState}
use Rattle.esm_journal.specs.State.{JournalState}
use Rattle.esm_model.specs.declared.book.Trouble.{Trouble}
use Rattle.esm_model.specs.declared.book.Trouble.TheVariants as trouble
use Rattle.esm_model.specs.declared.entry.Entry.{Entry}
use Rattle.esm_model.specs.declared.memory.OutOfMemory.{OutOfMemory}
use Rattle.esm_model.specs.Setting.{Setting}
use Rattle.esm_input.specs.Reading.{InputState, IsInput}
use Rattle.esm_pool.specs.declared.running.RunEnd.{RunEnd}
use Rattle.esm_pool.specs.declared.running.RunEnd.TheVariants as ran
use Rattle.esm_stream_core.specs.CoreView.{lines_of}
use Rattle.esm_stream_core.specs.Told.{opened}
use Rattle.esm_stream_core.specs.declared.decisions.Opened.{Opened}
use Rattle.esm_stream_book.specs.Books.{BookState, LeavesFirst, OpensToFirst, sent_of}
use Rattle.esm_book.specs.Growth.{IsHeld, ReadsFront, Takes}
use Rattle.esm_book.specs.State.{in_delivery}
use Rattle.esm_stream_book.specs.Keeping.{HasJournal, HasLines, IsCause, IsSound, entries_left, lines_left}
use Rattle.esm_workers.specs.Working.{Outside}
use Rattle.esm_runner.specs.FailureFile.{DeliversTo}
use Rattle.esm_runner.specs.Headline.{Telling}
use Rattle.esm_runner.specs.Ran.{CameSo, EndsSo, HasRun, HasStopped, IsCutInput}
use Rattle.esm_runner.specs.Runs.{file_dest, over_file}
use Rattle.esm_runner.proofs.Ways.{HasCome, IsCauseIn}

-- the book

pub sound_over : {D T : Type 0} (file : T → JournalState D) (b : BookState D T) → IsSound b → IsSound (over_file file b)
sound_over file b sound = record { records = sound.records; of_stream = sound.of_stream; legal = sound.legal; settled = sound.settled; hand_follows = sound.hand_follows; tried_follows = sound.tried_follows; hand_is_one = sound.hand_is_one; tried_is_one = sound.tried_is_one }

pub journal_over : {D T : Type 0} (m : DiskMeaning D) (file : T → JournalState D) (b : BookState D T) → HasJournal m b → HasJournal m (over_file file b)
journal_over m file b has = record { payloads = has.payloads; down = has.down; found_up = has.found_up; epoch = has.epoch; swapped = has.swapped; spare = has.spare; honesty = has.honesty }

-- its run

ran_over : {D T F : Type 0} (file : T → JournalState D) (o : Outside F) (before b : BookState D T) (old new : List F) (r : Result RunEnd OutOfMemory) → OnOk r (HasRun o before b old new) → OnOk r (HasRun o (over_file file before) (over_file file b) old new)
ran_over file o before b old new (Ok e) run = record {
  opened = run.opened;
  found = run.found;
  found_dest = ap file run.found_dest;
  moments = run.moments;
  timed = run.timed;
  rests = run.rests;
  as_many = run.as_many;
  calls_made = run.calls_made;
}
ran_over file o before b old new (Err none) run = tt

stopped_over : {D T F : Type 0} (file : T → JournalState D) (o : Outside F) (before b : BookState D T) (old new : List F) (r : Result RunEnd OutOfMemory)
    → OnErr r (HasStopped o before b old new) → OnErr r (HasStopped o (over_file file before) (over_file file b) old new)
stopped_over file o before b old new (Ok e) stopped = tt
stopped_over file o before b old new (Err none) stopped = record {
  opened = stopped.opened;
  found = stopped.found;
  found_dest = ap file stopped.found_dest;
  moments = stopped.moments;
  timed = stopped.timed;
  as_many = stopped.as_many;
  calls_made = stopped.calls_made;
}

came_each : {S D T : Type 0} (file : T → JournalState D) (i : InputState S) (b : BookState D T) (e : RunEnd) → CameSo i b e → CameSo i (over_file file b) e
came_each file i b ran.Finished came = (record { came = came.0.came; shut = came.0.shut }, came.1)
came_each file i b ran.Spent came = record { came = came.came; shut = came.shut }
came_each file i b ran.Down came = came

came_over : {S D T : Type 0} (file : T → JournalState D) (i : InputState S) (b : BookState D T) (r : Result RunEnd OutOfMemory) → IfOk r (CameSo i b) → IfOk r (CameSo i (over_file file b))
came_over file i b (Ok e) came = came_each file i b e came
came_over file i b (Err none) came = tt

ends_each : {S D T : Type 0} (file : T → JournalState D) (left : S → Option (List ℕ)) (i : InputState S) (b : BookState D T) (e : RunEnd) → EndsSo left i b e → EndsSo left i (over_file file b) e
ends_each file left i b ran.Finished so = so
ends_each file left i b ran.Spent so = so
ends_each file left i b ran.Down so = so

ends_over : {S D T : Type 0} (file : T → JournalState D) (left : S → Option (List ℕ)) (i : InputState S) (b : BookState D T) (r : Result RunEnd OutOfMemory) → IfOk r (EndsSo left i b) → IfOk r (EndsSo left i (over_file file b))
ends_over file left i b (Ok e) so = ends_each file left i b e so
ends_over file left i b (Err none) so = tt

cut_over : {S D T : Type 0} (file : T → JournalState D) (left : S → Option (List ℕ)) (i : InputState S) (b : BookState D T) (r : Result RunEnd OutOfMemory) → OnErr r (IsCutInput left i b) → OnErr r (IsCutInput left i (over_file file b))
cut_over file left i b (Ok e) cut = tt
cut_over file left i b (Err none) cut = record { bytes = cut.bytes; more = cut.more; whole = cut.whole; taken = cut.taken; came = cut.came }

-- how the batchers came to what they came to
pub come_over : {S D T F : Type 0} (file : T → JournalState D) (t : Telling D F) (faults : S → ℕ) (left : S → Option (List ℕ)) (before b : BookState D T) (i : InputState S) (callers new : List F) (r : Result RunEnd OutOfMemory)
    → OnOk r (HasRun t.callers before b callers new) → IfOk r (CameSo i b) → IfOk r (EndsSo left i b) → OnOk r (IsInput faults left i) → OnOk r (i.failed ≡ false) → OnErr r (HasStopped t.callers before b callers new)
    → OnErr r (IsCutInput left i b) → HasCome t faults left (over_file file before) (over_file file b) i callers new r
come_over file t faults left before b i callers new r run came ended read good stopped cut = record {
  run = ran_over file t.callers before b callers new r run;
  came = came_over file i b r came;
  ended = ends_over file left i b r ended;
  read = read;
  good = good;
  stopped = stopped_over file t.callers before b callers new r stopped;
  cut = cut_over file left i b r cut;
}

-- its lines

sent_alike : (f g : List ℕ → List ℕ) → ((l : List ℕ) → f l ≡ g l) → (lines : List (List ℕ)) → map f lines ≡ map g lines
sent_alike f g same [] = refl
sent_alike f g same (l ∷ lines) = ap₂ (λ (x : List ℕ) (xs : List (List ℕ)). x ∷ xs) (same l) (sent_alike f g same lines)

module _ {D T : Type 0} (m : DiskMeaning D) (n : DestMeaning T) (file : T → JournalState D) (line : List ℕ → List ℕ) (means : DeliversTo (file_dest m (λ l. l)) n file line) where
  grown_over : (old new : T) (lines : List (List ℕ)) → Grows (n.lines old) (n.lines new) lines → Grows (Some (file old).payloads) (Some (file new).payloads) lines
  grown_over old new lines grown =
      subst (λ (o : Option (List (List ℕ))). Grows (Some (file old).payloads) o lines) (means.lines new)
      (subst (λ (o : Option (List (List ℕ))). Grows o (n.lines new) lines) (means.lines old) grown)

  sent_over : (es : List Entry) → sent_of n es ≡ map line (lines_of es)
  sent_over es = sent_alike n.sends line means.sends (lines_of es)

  reads_over : (held : List (List ℕ)) (es : List Entry) (left : List ℕ) → ReadsFront n.reads_as held (sent_of n es) left → ReadsFront (file_dest m line).reads_as held (map line (lines_of es)) left
  reads_over held es left r = record { front = r.front; rest = r.rest; split = r.split ∙ sent_over es; reads = (means.reads_as left (held ++ r.front)).0 r.reads }

  held_under : (d : T) (held : List (List ℕ)) → IsHeld (file_dest m line) (file d) held → IsHeld n d held
  held_under d held only left since =
      (means.reads_as left held).1 (only left (subst (λ (t : ℕ). m.since (file d).disk t left) (means.moment d) ((means.since d (n.moment d) left).0 since)))

  takes_over : (old new : T) (held : List (List ℕ)) (es : List Entry) → Takes n old new held (sent_of n es) → Takes (file_dest m line) (file old) (file new) held (map line (lines_of es))
  takes_over old new held es takes = record {
    later = subst (λ (t : ℕ). t ≤ m.moment (file new).disk) (means.moment old) (subst (λ (t : ℕ). n.moment old ≤ t) (means.moment new) takes.later);
    images = λ t left early since.
        elim (takes.images t left (subst (λ (u : ℕ). t ≤ u) (sym (means.moment old)) early) ((means.since new t left).1 since)) [
          | inl was ↦ inl ((means.since old t left).0 was)
          | inr front ↦ inr (reads_over held es left front)
        ];
  }

  images_over : (b : BookState D T) → HasLines n b → m.honest (file b.found_dest).disk ≡ true → (held : List (List ℕ)) → ◌≡◌ {A = Option (List (List ℕ))} (Some (file b.found_dest).payloads) (Some held)
      → Takes (file_dest m line) (file b.found_dest) (file b.dest) held (map line (lines_of (lines_left b)))
  images_over b has honest held told = takes_over b.found_dest b.dest held (lines_left b) (has.images (means.honest b.found_dest ∙ honest) held (means.lines b.found_dest ∙ told))

  durable_over : (b : BookState D T) → HasLines n b → m.honest (file b.found_dest).disk ≡ true → (held : List (List ℕ)) → ◌≡◌ {A = Option (List (List ℕ))} (Some (file b.found_dest).payloads) (Some held)
      → IsHeld (file_dest m line) (file b.found_dest) held → (left : List ℕ) → m.since (file b.dest).disk (m.moment (file b.dest).disk) left
      → ReadsFront (file_dest m line).reads_as (held ++ map line (lines_of (entries_left b))) (map line (lines_of (in_delivery b.trouble b.core.owed))) left
  durable_over b has honest held told only left since =
      let under : n.since b.dest (n.moment b.dest) left = (means.since b.dest (n.moment b.dest) left).1 (subst (λ (t : ℕ). m.since (file b.dest).disk t left) (sym (means.moment b.dest)) since) in
      let read = has.durable (means.honest b.found_dest ∙ honest) held (means.lines b.found_dest ∙ told) (held_under b.found_dest held only) left under in
      subst (λ (lines : List (List ℕ)). ReadsFront (file_dest m line).reads_as (held ++ lines) (map line (lines_of (in_delivery b.trouble b.core.owed))) left) (sent_over (entries_left b))
      (reads_over (held ++ sent_of n (entries_left b)) (in_delivery b.trouble b.core.owed) left read)

  pub lines_over : (b : BookState D T) → HasLines n b → HasLines (file_dest m line) (over_file file b)
  lines_over b has = record {
    lines = subst (λ (lines : List (List ℕ)). Grows (Some (file b.found_dest).payloads) (Some (file b.dest).payloads) lines) (sent_over (entries_left b))
        (grown_over b.found_dest b.dest (sent_of n (entries_left b)) has.lines);
    failed = sym (means.failed b.dest) ∙ has.failed;
    found_usable = sym (means.failed b.found_dest) ∙ has.found_usable;
    honesty = sym (means.honest b.dest) ∙ (has.honesty ∙ means.honest b.found_dest);
    images = images_over b has;
    durable = durable_over b has;
  }

  -- what a crash leaves

  pub opens_over : (s : Setting) (epoch : ℕ) (before : List (List ℕ)) (old new : T) (es : List Entry) (one other : List ℕ) → OpensToFirst n s epoch before old new es one other
      → OpensToFirst (file_dest m line) s epoch before (file old) (file new) es one other
  opens_over s epoch before old new es one other o = record {
    front = o.front;
    rest = o.rest;
    split = o.split;
    opens = o.opens;
    delivered = (
      o.delivered.0,
      subst (λ (lines : List (List ℕ)). Grows (Some (file old).payloads) (Some (file new).payloads) (lines ++ o.delivered.0)) (sent_over o.front)
          (grown_over old new (sent_of n o.front ++ o.delivered.0) o.delivered.1),
    );
  }

  pub leaves_over : (s : Setting) (pair pair' : PairState D) (old new : T) (es : List Entry) → LeavesFirst m n s pair pair' old new es → LeavesFirst m (file_dest m line) s pair pair' (file old) (file new) es
  leaves_over s pair pair' old new es leaves used spare one other since other_since = opens_over s pair.epoch pair.payloads old new es one other (leaves used spare one other since other_since)

  -- why it is down

  cause_each : (b : BookState D T) (o : Opened) (why : Option Trouble) → IsCause (Rose (m.faults b.found.used) (m.faults b.pair.used)) (Rose (n.faults b.found_dest) (n.faults b.dest)) o why
      → IsCause (Rose (m.faults b.found.used) (m.faults b.pair.used)) (Rose (m.faults (file b.found_dest).disk) (m.faults (file b.dest).disk)) o why
  cause_each b o None cause = tt
  cause_each b o (Some trouble.Disk) cause = cause
  cause_each b o (Some trouble.Dest) cause = means.faults b.found_dest b.dest cause
  cause_each b o (Some (trouble.Changed change)) cause = cause

  pub cause_over : (b : BookState D T) → IsCause (Rose (m.faults b.found.used) (m.faults b.pair.used)) (Rose (n.faults b.found_dest) (n.faults b.dest)) (opened b.core) b.trouble → IsCauseIn m (over_file file b) b.trouble
  cause_over b cause = cause_each b (opened b.core) b.trouble cause
