-- What holds of finding spans in a recording, proved: each field cites the law that says it.
-- Assumes nothing.
use Rattle.recording.specs.Laws.{RecordingLaws}
use Rattle.recording.proofs.OneToOne.{found_one_to_one, next_one_to_one}
use Rattle.recording.proofs.Readings.{accepted_begins}

pub recording_laws : RecordingLaws
recording_laws = record {
  accepted_begins = accepted_begins;
  found_told = found_one_to_one;
  next_told = next_one_to_one;
}
