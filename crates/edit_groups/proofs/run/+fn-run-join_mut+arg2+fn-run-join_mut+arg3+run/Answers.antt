use Rattle.std.proofs.Common.{rules, ◌≡◌, ◌+◌, ◌/◌, ◌<◌, ◌∙◌, ap, sym, subst, length, arith, ℕ, List, map, ◌++◌, drop, take-append-drop}
use Rattle.std.proofs.lemmas.List.{map-append}
use Rattle.script_reader.specs.declared.step.Step.{Step}
use Rattle.edit_groups.specs.declared.reply.GroupReply.{GroupReply}
use Rattle.edit_groups.specs.Shared.{group_book_opening, session_of_chunk}
use Rattle.edit_groups.specs.Talks.{AreSessionsHeard, IsGroupTalkReady, group_talk_replies}
use Rattle.turn_book.specs.Journal.{Foreign}
use Rattle.turn_book.specs.Passes.{view_of}
use Rattle.turn_book.specs.Ready.{AreReady}
use Rattle.turn_book.proofs.Talked.{parts_fresh, ready_split}
use Rattle.edit_groups.proofs.SessionRuns.{heard_alone, heard_join}
use Rattle.edit_groups.proofs.run.+fn-run-join_mut+arg2+fn-run-join_mut+arg3+run.Goals as goal

pub join_mut-requires-after_bounds : goal.join_mut-requires-after_bounds
join_mut-requires-after_bounds g t c κs within = let m : ℕ = length c.args.scripts.now / 2 in
    let ready = ready_split (IsGroupTalkReady (group_book_opening c.args.shared.now)) m (view_of c.args.pass.now).first c.args.scripts.now c.args.talks.now c.requires.ready in
    let low = c.split-right.ensures.lower in let up = c.split-right.ensures.upper in let of_this = c.split-right.ensures.of_this in let s = c.split_at.ensures in let r = c.split_at_mut-front.ensures in
    let several : 1 < length c.args.scripts.now = search rules in
    let some : 0 < m = omega arith in
    let less : m < length c.args.scripts.now = omega arith in (
      (
        search rules,
        (
          (λ a h. h),
          (
            (λ a h. h),
            (
              (
                search rules,
                search rules,
                c.requires.setting,
                c.requires.profile,
                of_this.1,
                rw up (let x = s.back_len in let y = c.requires.range in let z = c.first.ensures in omega arith),
                (let x = s.back_len in omega arith),
                (let x = s.back_len in let y = r.back_len in let z = c.requires.same in omega arith),
                rw (s.back, r.back, up) (subst (λ (k : ℕ). AreReady (IsGroupTalkReady (group_book_opening c.args.shared.now)) (k + m) (drop m c.args.scripts.now) (drop m c.args.talks.now)) (sym c.first.ensures) ready.1),
              ),
              search rules,
            ),
          ),
        ),
      ),
      (
        search rules,
        (
          (λ a h. h),
          (
            (λ a h. h),
            (
              (
                search rules,
                search rules,
                c.requires.setting,
                c.requires.profile,
                of_this.0,
                rw (low, s.front_len) (ap (λ k. k + m) (sym c.first.ensures)),
                rw s.front_len some,
                r.front_len ∙ sym s.front_len,
                rw (s.front, r.front, low) ready.0,
              ),
              search rules,
            ),
          ),
        ),
      ),
    )

pub returns-clause-heard : goal.returns-clause-heard
returns-clause-heard g t c = λ fresh. let m : ℕ = length c.args.scripts.now / 2 in let v = view_of c.args.pass.now in let at = c.first.result + m in let o = group_book_opening c.args.shared.now in
    let a = c.split_at.result.0.now in let b = c.split_at.result.1.now in let l = view_of c.split-right.new.pass in let r = view_of c.split-right.result in
    let l' = view_of c.pass-1.given.0 in let r' = view_of c.right-2-1.given.0 in let p = c.front-1.given.0 in let q = c.back-1.given.0 in
    let s = c.split_at.ensures in
    let left : Foreign session_of_chunk l.first l.past l.seen → AreSessionsHeard o l.first l'.seen a (map group_talk_replies p) = search rules in
    let right : Foreign session_of_chunk r.first r.past r.seen → AreSessionsHeard o r.first r'.seen b (map group_talk_replies q) = search rules in
    let lf : l'.first ≡ l.first = search rules in
    let lp : l'.past ≡ l.past = search rules in
    let rf : r'.first ≡ r.first = search rules in
    let rp : r'.past ≡ r.past = search rules in
    let all = (view_of c.newest.new.pass).seen in
    let whole : a ++ b ≡ c.args.scripts.now = rw (s.front, s.back) (take-append-drop m c.args.scripts.now) in
    let parts = parts_fresh session_of_chunk at v l r (let z = c.first.ensures in omega arith) (let x = s.back_len in let y = c.requires.range in let z = c.first.ensures in omega arith)
    c.split-right.ensures.lower c.split-right.ensures.upper fresh in
    let d : map group_talk_replies p ++ map group_talk_replies q ≡ map group_talk_replies (p ++ q) = sym (map-append group_talk_replies p q) in
    subst (λ (z : List (List Step) × List (List GroupReply)). AreSessionsHeard o v.first all z.0 z.1) (λ i. (whole i, d i))
    (heard_join o at v l r l' r' (view_of c.join.new.pass) all a b (map group_talk_replies p) (map group_talk_replies q) c.split-right.ensures.lower c.split-right.ensures.upper
    (let x = s.front_len in let z = c.first.ensures in omega arith) (let x = s.back_len in let y = c.requires.range in let z = c.first.ensures in omega arith) lf lp rf rp
    (left parts.0) (right parts.1) c.join.ensures.united c.newest.ensures.catches)

pub returns-then-scripts-lt2-clause-heard : goal.returns-then-scripts-lt2-clause-heard
returns-then-scripts-lt2-clause-heard g t c = λ fresh.
    heard_alone (group_book_opening c.args.shared.now) (view_of c.args.pass.now).first (view_of c.talk.new.pass).seen c.args.scripts.now c.args.talks.now c.index-scripts-0.result c.as_slice.result.now c.talk.new.talk c.if-scripts-lt2.true
    c.requires.some c.requires.same c.index-scripts-0.is c.as_slice.ensures.items (c.talk.ensures.heard fresh)
