-- Legal pairs of a journal and replies.
use Rattle.std.specs.Prelude.{◌≡◌, ◌⊎◌, ℕ, ◌+◌, ◌<◌, ◌≤◌, ◌==◌, List, [], ◌∷◌, ◌++◌, Option, Some, None, IfSome, length, take, filter, slice_get, unwrap_or}
use Rattle.turn_book.specs.Journal.{Each, entry_list}
use Rattle.turn_book.specs.Core.{Core}

-- P holds of each entry and the journal before it
abbrev pub EachEntry : {A : Type 0} → (List A → A → Type 0) → List A → List A → Type 0
EachEntry P before [] = Unit {0}
EachEntry P before (e ∷ rest) = P before e × EachEntry P (before ++ e ∷ []) rest

module _ {Entry Command Reply Memory : Type 0} (core : Core Entry Command Reply Memory) where
  -- the version that the session has seen after a reply
  abbrev pub seen_after : ℕ → Reply → ℕ
  seen_after seen r = unwrap_or (core.version_of r) seen

  -- the entries of session n
  abbrev pub entries_by_session : ℕ → List Entry → List Entry
  entries_by_session n journal = filter (λ e. core.number_of e == n) journal

  -- the entries of session n's accepted replies
  abbrev pub entries_of_session : ℕ → Memory → List Command → List Reply → List Entry
  entries_of_session n memory [] rs = []
  entries_of_session n memory (c ∷ cs) [] = []
  entries_of_session n memory (c ∷ cs) (r ∷ rs) = entry_list (core.entry_of n memory c r) ++ entries_of_session n (core.memory_after memory c r) cs rs

  -- the reply is the answer at its base, which isn't below what the session has seen; where it is accepted, the journal has its entry there
  abbrev pub IsAnswerAt : Option ℕ → ℕ → List Entry → ℕ → Memory → Command → Reply → Type 0
  IsAnswerAt None n journal seen memory c r = core.answers n [] memory c r
  IsAnswerAt (Some base) n journal seen memory c r = (seen ≤ base) × (base ≤ length journal) × core.answers n (take base journal) memory c r
      × IfSome (core.entry_of n memory c r) (λ e. slice_get journal base ≡ Some e)

  -- one reply to each command of session n, each want of memory or an answer, and none older than the one before
  abbrev pub AreSessionAnswers : ℕ → List Entry → ℕ → Memory → List Command → List Reply → Type 0
  AreSessionAnswers n journal seen memory [] [] = Unit {0}
  AreSessionAnswers n journal seen memory [] (r ∷ rs) = ⊥
  AreSessionAnswers n journal seen memory (c ∷ cs) [] = ⊥
  AreSessionAnswers n journal seen memory (c ∷ cs) (r ∷ rs) = ((r ≡ core.short) ⊎ IsAnswerAt (core.base_of r) n journal seen memory c r)
      × AreSessionAnswers n journal (seen_after seen r) (core.memory_after memory c r) cs rs

  -- the same of each of the sessions n, n + 1 and so on; and the journal's entries of each are those of its accepted replies
  abbrev pub AreSessions : ℕ → List Entry → Memory → List (List Command) → List (List Reply) → Type 0
  AreSessions n journal start [] [] = Unit {0}
  AreSessions n journal start [] (r ∷ rs) = ⊥
  AreSessions n journal start (c ∷ cs) [] = ⊥
  AreSessions n journal start (c ∷ cs) (r ∷ rs) = AreSessionAnswers n journal 0 start c r × (entries_by_session n journal ≡ entries_of_session n start c r) × AreSessions (n + 1) journal start cs rs

  -- the journal and the replies are one legal history of these scripts
  pub record IsLegalHistory (start : Memory) (scripts : List (List Command)) (journal : List Entry) (replies : List (List Reply)) : Type 0 where
    pub sessions : AreSessions 0 journal start scripts replies
    pub numbers : Each (λ e. core.number_of e < length scripts) journal
