-- What fits a journal fits every longer one.
use Rattle.std.proofs.Common.{ℕ, List, [], ◌∷◌, ◌++◌}
use Rattle.edit_journal.specs.declared.edit.Entry.{Entry}
use Rattle.edit_journal.specs.declared.opening.Opening.{Opening}
use Rattle.edit_journal.proofs.Known.{names_longer, text_longer}
use Rattle.edit_book.specs.Turns.{AreFitAgain, IsFitBookCommand}
use Rattle.edit_book.specs.declared.reply.Again.{Again}
use Rattle.edit_book.specs.declared.reply.BookCommand.{BookCommand}
use Rattle.edit_book.specs.declared.reply.BookCommand.TheVariants as command

again_longer : (o : Opening) (es more : List Entry) (names : List (List ℕ)) (again : List Again) → AreFitAgain o es names again → AreFitAgain o (es ++ more) names again
again_longer o es more names [] f = tt
again_longer o es more names (a ∷ again) f = (
  record { given = text_longer o es more a.block a.stamp a.prepared.text f.0.given; prepared_for = f.0.prepared_for },
  again_longer o es more names again f.1,
)

pub fits_longer : (o : Opening) (es more : List Entry) (c : BookCommand) → IsFitBookCommand o es c → IsFitBookCommand o (es ++ more) c
fits_longer o es more (command.Look block) f = tt
fits_longer o es more (command.Put block seen head prepared) f = record { names = f.names; given = names_longer o es more head f.names f.given; prepared_for = f.prepared_for }
fits_longer o es more (command.Add anchor head prepared) f = record { names = f.names; given = names_longer o es more head f.names f.given; prepared_for = f.prepared_for }
fits_longer o es more (command.Cut block seen) f = tt
fits_longer o es more (command.LoopAt line) f = tt
fits_longer o es more command.Verdict f = tt
fits_longer o es more command.LookHead f = tt
fits_longer o es more command.Texts f = tt
fits_longer o es more (command.PutHead seen names again) f = again_longer o es more names again f
