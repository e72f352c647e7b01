mod DigestLemmas
mod FileLemmas
mod FormLemmas
mod RunLemmas
