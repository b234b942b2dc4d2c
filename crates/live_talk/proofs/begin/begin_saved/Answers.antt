use Rattle.std.proofs.Common.{◌≡◌, ◌<◌, ◌∙◌, Bool, List, ℕ, All, ap, subst, sym}
use Rattle.std.proofs.lemmas.List.Elements.{All-weaker}
use Rattle.knit_base.specs.Limits.{IsLawfulProfile}
use Rattle.edit_journal.specs.declared.edit.Entry.{Entry}
use Rattle.edit_journal.specs.declared.opening.Opening.{Opening}
use Rattle.journal_file.specs.SavedParts.{IsSpelledEntry}
use Rattle.live_talk.specs.Begins.{HasBegun}
use Rattle.live_talk.specs.declared.begin.Begun.{Begun}
use Rattle.live_talk.proofs.Documents.{if-ok}
use Rattle.live_talk.proofs.begin.begin_saved.Goals as goal

pub begin_at-requires-clause-profile : goal.begin_at-requires-clause-profile
begin_at-requires-clause-profile g c κs within = subst (λ (o : Opening). IsLawfulProfile o.setting.profile) (sym c.in_ok-book.ensures.opening) c.requires.bounds.limits

pub begin_at-requires-clause-sessions : goal.begin_at-requires-clause-sessions
begin_at-requires-clause-sessions g c κs within =
    subst (All (λ (e : Entry). e.session < 64)) (sym c.in_ok-book.ensures.entries)
    (All-weaker IsSpelledEntry (λ (e : Entry). e.session < 64) (λ (e : Entry) w. w.session) c.args.saved.journal.entries c.requires.bounds.written)

pub returns : goal.returns
returns g c =
    if-ok c.begin_at.result
    (λ (begun : Begun) has. subst (λ (p : Bool × List (List ℕ) × Opening × List Entry). HasBegun p.0 p.1 p.2 p.3 begun)
    (λ i. (c.as_json.ensures i, c.in_ok-try_clone.ensures i, c.in_ok-book.ensures.opening i, c.in_ok-book.ensures.entries i)) has) c.begin_at.ensures
