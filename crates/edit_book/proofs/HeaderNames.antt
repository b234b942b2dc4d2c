-- The header's names at a version.
use Rattle.std.proofs.Common.{◌≡◌, ℕ, zero, suc, ◌+◌, ◌-◌, ◌<◌, ◌≤◌, Bool, true, false, cond, nat_le, List, [], ◌∷◌, filter, take, drop, Some, None, option_and_then, sym, ap, ◌∙◌, refl, subst, arith}
use Rattle.std.proofs.lemmas.Bool.{le-leb, lt-leb}
use Rattle.std.proofs.lemmas.List.{take-append-drop}
use Rattle.edit_journal.specs.declared.edit.Edit.{Edit}
use Rattle.edit_journal.specs.declared.edit.Edit.TheVariants as edit
use Rattle.edit_journal.specs.declared.edit.Entry.{Entry}
use Rattle.edit_journal.specs.declared.opening.Opening.{Opening}
use Rattle.edit_journal.specs.Documents.{Document, after, after_all, document_of, names_at, names_given, document_opened}
use Rattle.edit_journal.proofs.Known.{all_known, names_longer}
use Rattle.edit_journal.specs.Entries.{entry_at, names_for}
use Rattle.edit_book.specs.Headers.{AreNumbersRising, changes_header, header_entries, last_not_above, last_or}

-- one entry
stamp_after : (d : Document) (i : ℕ) (e : Edit) (ns : List ℕ) → last_or (after d i e).header.stamp ns ≡ last_or d.header.stamp (cond (changes_header e) (i ∷ ns) ns)
stamp_after d i (edit.Put block seen text) ns = refl
stamp_after d i (edit.Add anchor block text) ns = refl
stamp_after d i (edit.Cut block seen) ns = refl
stamp_after d i (edit.Head seen names) ns = refl

-- the header's stamp is the number of the last entry that changed it
pub stamp_from : (d : Document) (i : ℕ) (es : List Entry) → (after_all d i es).header.stamp ≡ last_or d.header.stamp (header_entries i es)
stamp_from d i [] = refl
stamp_from d i (e ∷ es) = stamp_from (after d i e.edit) (i + 1) es ∙ stamp_after d i e.edit (header_entries (i + 1) es)

-- of entries behind a version none has a number up to it
none_up_to : (v i : ℕ) (es : List Entry) → v < i → filter (λ n. nat_le n v) (header_entries i es) ≡ []
none_up_to v i [] behind = refl
none_up_to v i (e ∷ es) behind = go (changes_header e.edit) (none_up_to v (i + 1) es (omega arith))
  where
    rest : List ℕ
    rest = header_entries (i + 1) es

    go : (b : Bool) → filter (λ n. nat_le n v) rest ≡ [] → filter (λ n. nat_le n v) (cond b (i ∷ rest) rest) ≡ []
    go true none = ap (λ (b : Bool). cond b (i ∷ filter (λ n. nat_le n v) rest) (filter (λ n. nat_le n v) rest)) (lt-leb i v behind) ∙ none
    go false none = none

-- those up to a version are those of the first entries
up_to : (v i k : ℕ) (es : List Entry) → k ≡ v + 1 - i → i ≤ v + 1 → filter (λ n. nat_le n v) (header_entries i es) ≡ header_entries i (take k es)
up_to v i zero es many within = none_up_to v i es (omega arith)
up_to v i (suc k) [] many within = refl
up_to v i (suc k) (e ∷ es) many within = go (changes_header e.edit) (up_to v (i + 1) k es (omega arith) (omega arith))
  where
    rest : List ℕ
    rest = header_entries (i + 1) es

    go : (b : Bool) → filter (λ n. nat_le n v) rest ≡ header_entries (i + 1) (take k es) → filter (λ n. nat_le n v) (cond b (i ∷ rest) rest) ≡ cond b (i ∷ header_entries (i + 1) (take k es)) (header_entries (i + 1) (take k es))
    go true same = ap (λ (b : Bool). cond b (i ∷ filter (λ n. nat_le n v) rest) (filter (λ n. nat_le n v) rest)) (le-leb i v (omega arith)) ∙ ap (λ (l : List ℕ). i ∷ l) same
    go false same = same

-- the names at a version are those that the last entry of the header up to it gave
pub names_up_to : (o : Opening) (es : List Entry) (v : ℕ) → names_given o es (last_not_above v (header_entries 1 es)) ≡ Some (names_at o es v)
names_up_to o es v =
    let d : Document = document_of o (take v es) in
    let stamp : last_not_above v (header_entries 1 es) ≡ d.header.stamp = ap (last_or 0) (up_to v 1 v es (omega arith) (omega arith)) ∙ sym (stamp_from (document_opened o) 1 (take v es)) in
    ap (names_given o es) stamp
    ∙ subst (λ (l : List Entry). names_given o l d.header.stamp ≡ Some d.header.names) (take-append-drop v es) (names_longer o (take v es) (drop v es) d.header.stamp d.header.names (all_known o (take v es)).header)

-- the numbers of the entries that changed the header rise
rises_behind : (n i : ℕ) (es : List Entry) → n < i → AreNumbersRising (n ∷ header_entries i es)
rises_behind n i [] less = tt
rises_behind n i (e ∷ es) less = go (changes_header e.edit) (rises_behind i (i + 1) es (omega arith)) (rises_behind n (i + 1) es (omega arith))
  where
    go : (b : Bool) → AreNumbersRising (i ∷ header_entries (i + 1) es) → AreNumbersRising (n ∷ header_entries (i + 1) es) → AreNumbersRising (n ∷ cond b (i ∷ header_entries (i + 1) es) (header_entries (i + 1) es))
    go true own others = (less, own)
    go false own others = others

rising_tail : (n : ℕ) (ns : List ℕ) → AreNumbersRising (n ∷ ns) → AreNumbersRising ns
rising_tail n [] r = tt
rising_tail n (m ∷ ms) r = r.1

pub header_rises : (es : List Entry) → AreNumbersRising (header_entries 1 es)
header_rises es = rising_tail 0 (header_entries 1 es) (rises_behind 0 1 es (omega arith))

-- the names that an entry with this number gave, and those of the opening where there is no such entry
given_by : (o : Opening) (es : List Entry) (n : ℕ) (e : Entry) → Some e ≡ entry_at es n → names_given o es n ≡ names_for e
given_by o es zero e is = absurd (cc)
given_by o es (suc i) e is = ap (option_and_then names_for) (sym is)

given_first : (o : Opening) (es : List Entry) (n : ℕ) (names : List (List ℕ)) → None ≡ entry_at es n → names_given o es n ≡ Some names → o.setting.declared ≡ names
given_first o es zero names is given = cc
given_first o es (suc i) names is given =
    let none : names_given o es (suc i) ≡ None = ap (option_and_then names_for) (sym is) in
    absurd (cc)

-- where the entry of the header up to a version is found, the names are those that it gave
pub names_of_entry : (o : Opening) (es : List Entry) (v n : ℕ) (e : Entry) → n ≡ last_not_above v (header_entries 1 es) → Some e ≡ entry_at es n → names_for e ≡ Some (names_at o es v)
names_of_entry o es v n e last is = sym (given_by o es n e is) ∙ ap (names_given o es) last ∙ names_up_to o es v

pub names_of_opening : (o : Opening) (es : List Entry) (v n : ℕ) → n ≡ last_not_above v (header_entries 1 es) → None ≡ entry_at es n → o.setting.declared ≡ names_at o es v
names_of_opening o es v n last is = given_first o es n (names_at o es v) is (ap (names_given o es) last ∙ names_up_to o es v)
