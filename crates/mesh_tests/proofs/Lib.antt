mod BufferLemmas
