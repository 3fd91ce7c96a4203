use Rattle.std.specs.Prelude.{ℕ, List, codes}
use Rattle.forms.specs.declared.cursor.FormFault.{FormFault}
use Rattle.forms.specs.declared.cursor.FormFault.TheVariants.{NotANumber, NotAWord, UnknownWord, Layout}

-- why a text is not of its form, in words
abbrev pub form_reason : FormFault → List ℕ
form_reason NotANumber = codes "not a number"
form_reason NotAWord = codes "not a word"
form_reason UnknownWord = codes "unknown word"
form_reason Layout = codes "not of the form"
