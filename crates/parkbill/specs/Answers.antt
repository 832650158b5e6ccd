-- What parkbill prints, from the bytes that it has read.
-- Assumes nothing.
use Rattle.std.specs.Prelude.{ℕ, ◌≤◌, ◌<◌, ◌≡◌, List, length, take}
use Rattle.park_text.specs.Answer.{answer_to}
use Rattle.park_text.specs.Buffer.{Starts}

-- the bytes that are read can be those of an input: all of it, or as many as there is room for
abbrev pub CanBeOf : ℕ → List ℕ → List ℕ → Type 0
CanBeOf room input bytes = take room input ≡ bytes

-- the text is the answer to every input that they can be of
abbrev pub AnswersEvery : ℕ → List ℕ → List ℕ → ℕ → List ℕ → Type 0
AnswersEvery room bytes before size after = (input : List ℕ) → CanBeOf room input bytes → Starts (answer_to input) before size after

-- the bytes themselves are such an input
abbrev pub WholeInput : Type 0
WholeInput = (room : ℕ) (bytes : List ℕ) → length bytes ≤ room → CanBeOf room bytes bytes

-- and the only one, if there is room for more
abbrev pub OnlyInput : Type 0
OnlyInput = (room : ℕ) (input bytes : List ℕ) → length bytes < room → CanBeOf room input bytes → input ≡ bytes
