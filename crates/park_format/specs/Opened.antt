-- The park of a file that was opened, whichever version it has.
-- Assumes nothing.
use Rattle.park_format.specs.Park.{Park, park_of}
use Rattle.park_format.specs.declared.opening.Opened.{Opened}
use Rattle.park_format.specs.declared.opening.Opened.TheVariants.{First, Second}

abbrev pub opened_park : Opened → Park
opened_park (First file) = park_of file.laid.bytes.now
opened_park (Second file) = park_of file.laid.bytes.now
