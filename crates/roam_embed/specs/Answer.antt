-- The numbers of the answers, as C knows them. This project's own.
use Rattle.std.specs.Prelude.{ℤ, pos}
use Rattle.roam_embed.specs.declared.answer.Answer.{Answer}
use Rattle.roam_embed.specs.declared.answer.Answer.TheVariants.{Done, NoMemory, BadGrid, BadBudget, BadSpacing}
use Rattle.roam_embed.specs.declared.answer.Answer.TheVariants.{BadCamera, BadPlane, TooManyPlanes, OutsideGrid}
use Rattle.roam_embed.specs.declared.answer.Answer.TheVariants.{BadChange, Worn, NoRoom, IsEmpty, BadTolerance, BadMesh}
use Rattle.roam_embed.specs.declared.answer.Answer.TheVariants.{Shrunk, BadPage, NotThere}

-- the number of an answer
abbrev pub number_of : Answer → ℤ
number_of Done = pos 0
number_of NoMemory = pos 1
number_of BadGrid = pos 2
number_of BadBudget = pos 3
number_of BadSpacing = pos 4
number_of BadCamera = pos 5
number_of BadPlane = pos 6
number_of TooManyPlanes = pos 7
number_of OutsideGrid = pos 8
number_of BadChange = pos 9
number_of Worn = pos 10
number_of NoRoom = pos 11
number_of IsEmpty = pos 12
number_of BadTolerance = pos 13
number_of BadMesh = pos 14
number_of Shrunk = pos 15
number_of BadPage = pos 16
number_of NotThere = pos 17
