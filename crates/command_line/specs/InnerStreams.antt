-- The inner writer and reader of the values that show the progress of long work; this project's own.
use Rattle.command_line.specs.declared.progress.{shown_progress.ErasingWriter.ErasingWriter, progress_reader.ProgressReader.ProgressReader}

-- the writer before whose writes the progress line is erased
abbrev pub inner_writer : {R W : Type 0} → ErasingWriter R W → W
inner_writer writer = writer.inner

-- the reader whose progress is shown
abbrev pub inner_reader : {R F : Type 0} → ProgressReader R F → F
inner_reader reader = reader.inner
