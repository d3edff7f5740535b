-- The counts of the report, from how many records a history replays.
use Rattle.std.proofs.Common.{◌≡◌, ◌+◌, ◌-◌, ◌≤◌, List, [], ◌∷◌, ◌++◌, refl, ap, ◌∙◌, arith}
use Rattle.std.specs.Prelude.{reverse}
use Rattle.std.proofs.lemmas.List.{reverse-append}
use Rattle.esm_model.specs.declared.entry.Entry.{Entry}
use Rattle.esm_model.specs.declared.entry.Entry.TheVariants.{Came, Began, Ended, Gave, Tried, Closed, Replayed, Shut}
use Rattle.esm_replay_model.specs.ReplaySetting.{ReplaySetting}
use Rattle.esm_replay_model.specs.ReplayRun.{IsReplay}
use Rattle.esm_replay_model.specs.ReplayReport.{named_count, replayed_in}
use Rattle.esm_replay_run.specs.declared.report.ReplayCounts.{ReplayCounts}
use Rattle.esm_replay_run.specs.Counts.{AreCounts}
use Rattle.esm_replay_run.specs.Laws.{AreLaws}

pub replayed_within : AreLaws → (s : ReplaySetting) (h : List Entry) → IsReplay s h → replayed_in h ≤ named_count s
replayed_within laws s h run =
    let c = laws.counts s h run in
    let is = c.replayed in
    let all = c.all in
    omega (arith, is, all)

pub counted : AreLaws → (s : ReplaySetting) (h : List Entry) (counts : ReplayCounts) → IsReplay s h → counts.named ≡ named_count s → counts.replayed ≡ replayed_in h → counts.left ≡ named_count s - replayed_in h → AreCounts s h counts
counted laws s h counts run named replayed left =
    let c = laws.counts s h run in
    let is = c.replayed in
    let all = c.all in
    record { named = named; replayed = replayed ∙ is; left = left ∙ omega (arith, is, all) }

-- in whichever order

replayed-append : (xs ys : List Entry) → replayed_in (xs ++ ys) ≡ replayed_in xs + replayed_in ys
replayed-append [] ys = omega arith
replayed-append (Replayed shard places m ∷ xs) ys = (let rest = replayed-append xs ys in omega (arith, rest))
replayed-append (Came shard first count m ∷ xs) ys = replayed-append xs ys
replayed-append (Began lane places closing m ∷ xs) ys = replayed-append xs ys
replayed-append (Ended lane reply m ∷ xs) ys = replayed-append xs ys
replayed-append (Gave by shard places f line state m ∷ xs) ys = replayed-append xs ys
replayed-append (Tried lane places closing tries m ∷ xs) ys = replayed-append xs ys
replayed-append (Closed lane window m ∷ xs) ys = replayed-append xs ys
replayed-append (Shut m ∷ xs) ys = replayed-append xs ys

pub replayed-reverse : (xs : List Entry) → replayed_in (reverse xs) ≡ replayed_in xs
replayed-reverse [] = refl
replayed-reverse (x ∷ xs) =
    let apart : replayed_in (reverse (x ∷ xs)) ≡ replayed_in (reverse xs ++ x ∷ []) = ap replayed_in (reverse-append (x ∷ []) xs) in
    let both = replayed-append (reverse xs) (x ∷ []) in
    let turned = replayed-append (x ∷ []) xs in
    let rest = replayed-reverse xs in
    omega (arith, apart, both, turned, rest)
