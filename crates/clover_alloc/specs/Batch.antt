-- a batch as a list of tags
use Rattle.std.specs.Prelude.{List, take}
use Rattle.clover_words.specs.Tag.{TagParts}
use Rattle.clover_alloc.specs.declared.batch.Batch.{Batch}

-- the tags of a batch, in the order in which they were taken
abbrev pub tags_of : Batch → List TagParts
tags_of batch = take batch.count batch.tags
