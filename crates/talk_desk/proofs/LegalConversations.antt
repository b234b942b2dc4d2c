-- The steps of a conversation, each answered before the next is taken, are a legal history behind the earlier steps.
use Rattle.std.proofs.Common.{◌≡◌, ◌⊎◌, inl, inr, ⊎_elim, ◌∙◌, ℕ, ◌+◌, ◌-◌, ◌<◌, Bool, List, [], ◌∷◌, ◌++◌, length, map, Option, Some, None, ap, subst, sym, refl, arith, length-append, append-nil, append_assoc}
use Rattle.std.specs.Option.{option_map}
use Rattle.knit_base.specs.Lines.{without_return}
use Rattle.edit_journal.specs.declared.opening.Opening.{Opening}
use Rattle.edit_book.specs.Memory.{Memory, first_memory}
use Rattle.edit_groups.specs.Sessions.{HeardReply, group_core}
use Rattle.edit_groups.specs.declared.chunk.Chunk.{Chunk}
use Rattle.edit_groups.proofs.CoreLaws.{is_core}
use Rattle.script_reader.specs.Hearing.{Order, Refuse, Ask, Tell, first_hearing}
use Rattle.script_reader.specs.declared.step.Step.{Step}
use Rattle.talk_loop.specs.InStep.{AreDeskAnswers, state_behind}
use Rattle.turn_book.specs.Core.{Core, IsCore}
use Rattle.turn_book.specs.Journal.{Each, entry_list}
use Rattle.turn_book.specs.OneOrder.{AreExchangesDue, Exchange, Point, appended_entries, entry_in, first_point, memory_behind, point_behind}
use Rattle.turn_book.specs.Walk.{IsReplyGiven}
use Rattle.turn_book.proofs.OneOrder.{order_legal}
use Rattle.talk_desk.specs.Conversation.{Answer, Given, Refused, Short, Standing, Told, asking, standing_after, standing_at_start, standing_behind}
use Rattle.talk_desk.specs.LawfulOrders.{AllOrders}
use Rattle.talk_desk.specs.LegalConversations.{EachTalkIsLegal, IsLegalTalk, behind_earlier, exchanges}
use Rattle.talk_desk.proofs.LawfulOrders.{sound_at_start, sound_lines}
use Rattle.talk_desk.proofs.Standings.{standing-more}

no-less : (n : ℕ) (o : Option ℕ) → option_map (λ (v : ℕ). v - n) o ≡ None → o ≡ None
no-less n None is = refl
no-less n (Some v) is = absurd (cc)

-- histories that begin behind entries obey the laws of those that begin with the journal
behind-laws : {E C R M : Type 0} (earlier : List E) (k : Core E C R M) → IsCore k → IsCore (behind_earlier earlier k)
behind-laws {E} {C} {R} {M} earlier k laws =
    let less : Option ℕ → Option ℕ = option_map (λ (v : ℕ). v - length earlier) in
    let count : (before : List E) → length (earlier ++ before) - length earlier ≡ length before = λ before. omega (arith, length-append earlier before) in
    let more : (before : List E) → length (earlier ++ before) + 1 - length earlier ≡ length before + 1 = λ before. omega (arith, length-append earlier before) in
    record {
      number = laws.number;
      short_entry = laws.short_entry;
      short_version = ap less laws.short_version;
      short_base = ap less laws.short_base;
      enters = λ n before m c r e a is.
          let x = laws.enters n (earlier ++ before) m c r e a is in
          (ap less x.0 ∙ ap (λ (v : ℕ). Some v) (count before), ap less x.1 ∙ ap (λ (v : ℕ). Some v) (more before));
      stays = λ n before m c r a is.
          ⊎_elim (λ x. inl (ap less x.0 ∙ ap (λ (v : ℕ). Some v) (count before), ap less x.1 ∙ ap (λ (v : ℕ). Some v) (count before)))
          (λ x. inr (ap less x.0, ap less x.1)) (laws.stays n (earlier ++ before) m c r a is);
      free = λ n before after m c r a is. laws.free n (earlier ++ before) (earlier ++ after) m c r a (no-less (length earlier) (k.base_of r) is);
    }

module _ (json : Bool) (head : List (List ℕ)) (opening : Opening) (earlier : List Chunk) (first : ℕ) where
  -- how it stands behind these orders and answers
  abbrev pub standing : List (Order × Answer) → Standing
  standing told = standing_behind json head opening (standing_at_start json head opening earlier) told

  abbrev pub book : Core Chunk Step HeardReply Memory
  book = behind_earlier earlier (group_core opening)

  -- the same, at a point of the history that begins behind the earlier steps
  abbrev pub here : Point Chunk Memory → Point Chunk Memory
  here p = record { entries = earlier ++ p.entries; memories = p.memories }

  -- what the history from here on is
  record GoesOn (told : List (Order × Answer)) (p : Point Chunk Memory) (os : List Order) (as_ : List Answer) : Type 0 where
    given : AreExchangesDue book p (exchanges os as_)
    few : Each (λ t. t.session < 64) (exchanges os as_)
    leads : (standing (state_behind (asking json head opening earlier first) told os as_)).point.entries ≡ earlier ++ (p.entries ++ appended_entries book p (exchanges os as_))

  step-point : (told : List (Order × Answer)) (p : Point Chunk Memory) (n : ℕ) (c : Step) (h : HeardReply) → (standing told).point ≡ here p
      → (standing (told ++ (Ask n c, Given h) ∷ [])).point ≡ here (point_behind book p (record { session = n; command = c; reply = h }))
  step-point told p n c h at =
      let t : Exchange Step HeardReply = record { session = n; command = c; reply = h } in
      ap (λ (s : Standing). s.point) (standing-more json head opening (standing_at_start json head opening earlier) told (Ask n c) (Given h))
      ∙ ap (λ (q : Point Chunk Memory). point_behind (group_core opening) q t) at
      ∙ ap (λ (l : List Chunk). record { entries = l; memories = memory_behind book p t }) (append_assoc earlier p.entries (entry_list (entry_in book p t)))

  goes-on : (told : List (Order × Answer)) (p : Point Chunk Memory) (os : List Order) (as_ : List Answer) → (standing told).point ≡ here p → AllOrders os
      → AreDeskAnswers (asking json head opening earlier first) told os as_ → GoesOn told p os as_
  goes-on told p [] [] at lawful given = record { given = tt; few = tt; leads = ap (λ (q : Point Chunk Memory). q.entries) at ∙ ap (λ (l : List Chunk). earlier ++ l) (sym (append-nil p.entries)) }
  goes-on told p [] (a ∷ as_) at lawful given = absurd given
  goes-on told p (o ∷ os) [] at lawful given = absurd given
  goes-on told p (Refuse line why ∷ os) (a ∷ as_) at lawful given =
      let rest = goes-on (told ++ (Refuse line why, a) ∷ []) p os as_
      (ap (λ (s : Standing). s.point) (standing-more json head opening (standing_at_start json head opening earlier) told (Refuse line why) a) ∙ at) lawful.1 given.1 in
      record { given = rest.given; few = rest.few; leads = rest.leads }
  goes-on told p (Tell n q ∷ os) (a ∷ as_) at lawful given =
      let rest = goes-on (told ++ (Tell n q, a) ∷ []) p os as_
      (ap (λ (s : Standing). s.point) (standing-more json head opening (standing_at_start json head opening earlier) told (Tell n q) a) ∙ at) lawful.1 given.1 in
      record { given = rest.given; few = rest.few; leads = rest.leads }
  goes-on told p (Ask n c ∷ os) (Refused ∷ as_) at lawful given = absurd given.0
  goes-on told p (Ask n c ∷ os) (Told text ∷ as_) at lawful given = absurd given.0
  goes-on told p (Ask n c ∷ os) (Short ∷ as_) at lawful given = absurd given.0
  goes-on told p (Ask n c ∷ os) (Given h ∷ as_) at lawful given =
      let t : Exchange Step HeardReply = record { session = n; command = c; reply = h } in
      let next = point_behind book p t in
      let rest = goes-on (told ++ (Ask n c, Given h) ∷ []) next os as_ (step-point told p n c h at) lawful.1 given.1 in
      let mine : IsReplyGiven book n p.entries (p.memories n) c h = subst (λ (q : Point Chunk Memory). IsReplyGiven (group_core opening) n q.entries (q.memories n) c h) at given.0 in
      record {
        given = (mine, rest.given);
        few = (lawful.0.0, rest.few);
        leads = rest.leads ∙ ap (λ (l : List Chunk). earlier ++ l) (append_assoc p.entries (entry_list (entry_in book p t)) (appended_entries book next (exchanges os as_)));
      }

  pub legal : (lines : List (List ℕ)) (as_ : List Answer) → AreDeskAnswers (asking json head opening earlier first) [] ((asking json head opening earlier first).orders lines) as_
      → IsLegalTalk opening earlier ((asking json head opening earlier first).orders lines) as_ (standing (state_behind (asking json head opening earlier first) [] ((asking json head opening earlier first).orders lines) as_)).point.entries
  legal lines as_ given =
      let os : List Order = (asking json head opening earlier first).orders lines in
      let start : Point Chunk Memory = first_point book (first_memory opening) in
      let all = goes-on [] start os as_ (ap (λ (l : List Chunk). record { entries = l; memories = start.memories }) (sym (append-nil earlier)))
      (sound_lines first_hearing first (map without_return lines) sound_at_start).1 given in
      record {
        added = appended_entries book start (exchanges os as_);
        journal_is = all.leads;
        legal = order_legal book (behind-laws earlier (group_core opening) (is_core opening)) (first_memory opening) 64 (exchanges os as_) all.few all.given;
      }

pub each-legal : EachTalkIsLegal
each-legal json head opening earlier first lines as_ given = legal json head opening earlier first lines as_ given
