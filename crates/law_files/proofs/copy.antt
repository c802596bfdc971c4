mod CopyFiles
